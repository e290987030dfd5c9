-- Which word stands where in the memory at the start.
use Rattle.std.proofs.Common.{◌≡◌, ℕ, ◌+◌, ◌-◌, ◌*◌, ◌/◌, ◌%◌, ◌<◌, ◌≤◌, List, [], ◌∷◌, length, replicate, refl, sym, ap, ◌∙◌, arith}
use Rattle.std.proofs.Common.{slice_index, length-append}
use Rattle.std.proofs.lemmas.Grind.{common_steps}
use Rattle.std.proofs.lemmas.List.{get_or_append_left, get_or-append_right}
use Rattle.image_file.specs.Value.{ImageValue, SegmentValue, AreApart, memory_bytes, with_segment, with_segments, filled, start_memory}
use Rattle.image_file.proofs.StartLaws.{filled-length, segment-length}

-- Zeros at the end read as what stands past the end.
filled_reads : (words : ℕ) (memory : List ℕ) (index : ℕ) → slice_index (filled words memory) index ≡ slice_index memory index
filled_reads words memory index = grind (arith, common_steps)

-- Segments stay behind what was there.
front_stays : (memory : List ℕ) (segments : List SegmentValue) (index : ℕ) → index < length memory
    → slice_index (with_segments memory segments) index ≡ slice_index memory index
front_stays memory [] index within = refl
front_stays memory (s ∷ segments) index within =
    let before = filled (s.start / 4) memory in
    let longer = length-append memory (replicate (s.start / 4 - length memory) 0) in
    front_stays (with_segment memory s) segments index (omega (arith, within, segment-length memory s))
    ∙ get_or_append_left before s.words 0 index (omega (arith, within, longer))
    ∙ filled_reads (s.start / 4) memory index

-- the word at an address within a segment
segment_reads : (memory : List ℕ) (s : SegmentValue) (addr : ℕ) → s.start % 4 ≡ 0 → 4 * length memory ≤ s.start → s.start ≤ addr
    → slice_index (with_segment memory s) (addr / 4) ≡ slice_index s.words ((addr - s.start) / 4)
segment_reads memory s addr aligned behind from =
    let index : addr / 4 - s.start / 4 ≡ (addr - s.start) / 4 = omega (arith, aligned, from) in
    get_or-append_right (filled (s.start / 4) memory) s.words (s.start / 4) (addr / 4) 0
    (filled-length (s.start / 4) memory (omega (arith, behind))) (omega (arith, from))
    ∙ ap (slice_index s.words) index

-- memory reads as the code with the segments, also where zeros fill it up
start_reads : (image : ImageValue) (index : ℕ)
    → slice_index (start_memory image) index ≡ slice_index (with_segments image.code image.segments) index
unfolding start_memory
start_reads image index = filled_reads (2 * image.memory_lines) (with_segments image.code image.segments) index

-- a word of the code
pub code_at : (image : ImageValue) (index : ℕ) → index < length image.code
    → slice_index (start_memory image) index ≡ slice_index image.code index
code_at image index within = start_reads image index ∙ front_stays image.code image.segments index within

-- The code and the segments before some others have no word at an address.
pub record HasNone (image : ImageValue) (addr : ℕ) (segments : List SegmentValue) : Type 0 where
  pub memory : List ℕ
  pub none : slice_index memory (addr / 4) ≡ 0
  pub apart : AreApart (4 * length memory) (memory_bytes image) segments
  pub rest : with_segments memory segments ≡ with_segments image.code image.segments

-- the word at an address within the first of the others
pub segment_at : (image : ImageValue) (addr : ℕ) (s : SegmentValue) (segments : List SegmentValue) → HasNone image addr (s ∷ segments)
    → s.start ≤ addr → addr < s.start + 4 * length s.words
    → slice_index (start_memory image) (addr / 4) ≡ slice_index s.words ((addr - s.start) / 4)
segment_at image addr s segments before from to =
    let apart = before.apart in
    start_reads image (addr / 4)
    ∙ ap (λ words. slice_index words (addr / 4)) (sym before.rest)
    ∙ front_stays (with_segment before.memory s) segments (addr / 4)
    (omega (arith, apart.0, apart.1, from, to, segment-length before.memory s))
    ∙ segment_reads before.memory s addr apart.0 apart.1 from

-- no word at all
pub none_at : (image : ImageValue) (addr : ℕ) → HasNone image addr [] → slice_index (start_memory image) (addr / 4) ≡ 0
none_at image addr before =
    start_reads image (addr / 4) ∙ ap (λ words. slice_index words (addr / 4)) (sym before.rest) ∙ before.none
