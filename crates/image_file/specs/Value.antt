-- What an image is, and the memory and the cores that it starts with.
use Rattle.std.specs.Prelude.{◌≡◌, ℕ, ◌+◌, ◌-◌, ◌*◌, ◌/◌, ◌%◌, ◌^◌, ◌<◌, ◌≤◌, List, [], ◌∷◌, ◌++◌, length, map, replicate, flat_map}
use Rattle.std.specs.Int.{w32, to_le_bytes}
use Rattle.std.specs.List.{range_with_len, AllByRecursion}
use Rattle.mips_isa.specs.declared.CoreState.{CoreState}
use Rattle.mips_isa.specs.Steps.{IsCode, start}

pub record SegmentValue : Type 0 where
  pub start : ℕ
  pub words : List ℕ

pub record ImageValue : Type 0 where
  pub memory_lines : ℕ
  pub code : List ℕ
  pub segments : List SegmentValue

-- a line is two words
abbrev pub memory_bytes : ImageValue → ℕ
memory_bytes image = 8 * image.memory_lines

-- The lines of memory that have code.
abbrev pub code_lines : ImageValue → ℕ
code_lines image = length image.code / 2

-- a segment is spelled as where it starts, how many words it has, and these
abbrev pub segment_numbers : SegmentValue → List ℕ
segment_numbers segment = segment.start ∷ length segment.words ∷ segment.words

-- how many numbers that are
abbrev pub segment_size : SegmentValue → ℕ
segment_size segment = length segment.words + 2

-- fields, words, and segments behind them
abbrev pub numbers_from : List ℕ → List ℕ → List SegmentValue → List ℕ
numbers_from fields words segments = fields ++ words ++ flat_map segment_numbers segments

-- The numbers of an image's one spelling: the bytes `KMP1` as a number, the memory's lines, how many code words and
-- segments there are, the code, and the segments.
abbrev pub image_numbers : ImageValue → List ℕ
image_numbers image =
    numbers_from (0x31504d4b ∷ image.memory_lines ∷ length image.code ∷ length image.segments ∷ []) image.code image.segments

-- The spelling: each number in four bytes, the lowest first.
unfoldable pub image_bytes : ImageValue → List ℕ
image_bytes image = flat_map (to_le_bytes w32) (image_numbers image)

-- A number of four bytes.
abbrev pub IsNumber : ℕ → Type 0
IsNumber number = number < 2 ^ 32

-- each word of a segment is one
abbrev pub HasWords : SegmentValue → Type 0
HasWords segment = AllByRecursion IsNumber segment.words

-- Segments stand at multiples of 4, one behind the other from an address on, within so many bytes.
abbrev pub AreApart : ℕ → ℕ → List SegmentValue → Type 0
AreApart from bytes [] = from ≤ bytes
AreApart from bytes (segment ∷ segments) =
    (segment.start % 4 ≡ 0) × (from ≤ segment.start) × AreApart (segment.start + 4 * length segment.words) bytes segments

pub record IsGood (image : ImageValue) : Type 0 where
  pub two_lines : 2 ≤ image.memory_lines
  pub lines : image.memory_lines ≤ 2 ^ 21
  pub some_code : 0 < length image.code
  pub even_code : length image.code % 2 ≡ 0
  pub code_words : length image.code ≤ 2 ^ 16
  pub code : IsCode image.code
  pub apart : AreApart (4 * length image.code) (memory_bytes image) image.segments
  pub few_bytes : length (image_bytes image) < 2 ^ 32
  pub numbers : AllByRecursion IsNumber (image_numbers image)

-- memory up to the end of a segment: zeros up to its start, and its words
abbrev pub with_segment : List ℕ → SegmentValue → List ℕ
with_segment memory segment = memory ++ replicate (segment.start / 4 - length memory) 0 ++ segment.words

abbrev pub with_segments : List ℕ → List SegmentValue → List ℕ
with_segments memory [] = memory
with_segments memory (segment ∷ segments) = with_segments (with_segment memory segment) segments

-- zeros behind a list, up to so many words
abbrev pub filled : ℕ → List ℕ → List ℕ
filled words memory = memory ++ replicate (words - length memory) 0

-- The memory at the start: the code from address 0 on, the segments, and zeros.
unfoldable pub start_memory : ImageValue → List ℕ
start_memory image = filled (2 * image.memory_lines) (with_segments image.code image.segments)

-- The state in which a core of so many begins, whatever the image is.
abbrev pub start_state : ImageValue → ℕ → ℕ → CoreState
start_state image core cores = start core cores

-- The states in which so many cores begin, by their numbers.
abbrev pub start_states : ImageValue → ℕ → List CoreState
start_states image cores = map (λ core. start_state image core cores) (range_with_len 0 cores)
