-- What bytes mean as an image, or their first fault.
use Rattle.std.specs.Prelude.{ℕ, zero, suc, ◌+◌, ◌-◌, ◌*◌, ◌%◌, ◌^◌, Bool, true, false, not, ◌==◌, ◌&&◌, ◌||◌, nat_le, if◌then◌else◌}
use Rattle.std.specs.Prelude.{List, [], ◌∷◌, length, Result, Ok, Err, is_some}
use Rattle.std.specs.Int.{w32, from_le_bytes}
use Rattle.kmp_base.specs.Bind.{◌>>=◌}
use Rattle.mips_isa.specs.Fields.{instr_of}
use Rattle.image_file.specs.declared.fault.ImageCause.{ImageCause}
use Rattle.image_file.specs.declared.fault.ImageCause.TheVariants.{BadMagic, Truncated, OddCode, BadWord, Overlap, DoesNotFit, Trailing}
use Rattle.image_file.specs.Value.{ImageValue, SegmentValue}

-- A fault of a field, and how many bytes are left from its first byte on.
abbrev pub Fault : Type 0
Fault = ImageCause × ℕ

-- the fault of the field at the front, where a test of it fails
abbrev pub judged : Bool → ImageCause → List ℕ → Result (Unit {0}) Fault
judged passes cause bytes = if passes then Ok tt else Err (cause, length bytes)

-- The number in the four bytes at the front, the lowest first, and what stands behind it.
abbrev pub number_in : List ℕ → Result (ℕ × List ℕ) Fault
number_in (a ∷ b ∷ c ∷ d ∷ rest) = Ok (from_le_bytes w32 (a ∷ b ∷ c ∷ d ∷ []), rest)
number_in bytes = Err (Truncated, length bytes)

-- what stands behind the bytes `KMP1`
unfoldable pub magic_in : List ℕ → Result (List ℕ) Fault
magic_in bytes = do
  magic ← number_in bytes
  _ ← judged (magic.0 == 0x31504d4b) BadMagic bytes
  Ok magic.1

-- how many lines memory has
unfoldable pub lines_in : List ℕ → Result (ℕ × List ℕ) Fault
lines_in bytes = do
  lines ← number_in bytes
  _ ← judged (nat_le 2 lines.0 && nat_le lines.0 (2 ^ 21)) DoesNotFit bytes
  Ok lines

-- how many words the code has, in so many bytes of memory
unfoldable pub code_count_in : ℕ → List ℕ → Result (ℕ × List ℕ) Fault
code_count_in memory bytes = do
  count ← number_in bytes
  _ ← judged (not (count.0 == 0) && (count.0 % 2 == 0)) OddCode bytes
  _ ← judged (nat_le count.0 (2 ^ 16) && nat_le (4 * count.0) memory) DoesNotFit bytes
  Ok count

-- a word of the code spells an instruction, one of a segment may be any
abbrev pub may_stand : Bool → ℕ → Bool
may_stand in_code word = not in_code || is_some (instr_of word)

-- a word that passes a test
unfoldable pub word_in : (ℕ → Bool) → List ℕ → Result (ℕ × List ℕ) Fault
word_in test bytes = do
  word ← number_in bytes
  _ ← judged (test word.0) BadWord bytes
  Ok word

-- so many of them
unfoldable pub words_in : (ℕ → Bool) → ℕ → List ℕ → Result (List ℕ × List ℕ) Fault
words_in test zero bytes = Ok ([], bytes)
words_in test (suc count) bytes = do
  word ← word_in test bytes
  others ← words_in test count word.1
  Ok (word.0 ∷ others.0, others.1)

-- whether words have room from a start on, in so many bytes of memory
abbrev pub fits : ℕ → ℕ → ℕ → Bool
fits memory start count = (start % 4 == 0) && nat_le (start + 4 * count) memory

-- A segment behind an end, in so many bytes of memory: where it starts, how many words it has, and these.
unfoldable pub segment_in : ℕ → ℕ → List ℕ → Result (SegmentValue × List ℕ) Fault
segment_in memory end bytes = do
  start ← number_in bytes
  count ← number_in start.1
  _ ← judged (fits memory start.0 count.0) DoesNotFit bytes
  _ ← judged (nat_le end start.0) Overlap bytes
  words ← words_in (may_stand false) count.0 count.1
  Ok (record { start = start.0; words = words.0 }, words.1)

-- where a segment ends
abbrev pub end_of : SegmentValue → ℕ
end_of segment = segment.start + 4 * length segment.words

-- so many segments, each behind the one before
unfoldable pub segments_in : ℕ → ℕ → ℕ → List ℕ → Result (List SegmentValue × List ℕ) Fault
segments_in memory end zero bytes = Ok ([], bytes)
segments_in memory end (suc count) bytes = do
  segment ← segment_in memory end bytes
  others ← segments_in memory (end_of segment.0) count segment.1
  Ok (segment.0 ∷ others.0, others.1)

-- The fields of an image, in the order in which they are read and judged.
unfoldable pub image_in : List ℕ → Result ImageValue Fault
image_in bytes = do
  behind ← magic_in bytes
  lines ← lines_in behind
  words ← code_count_in (8 * lines.0) lines.1
  segment_count ← number_in words.1
  code ← words_in (may_stand true) words.0 segment_count.1
  segments ← segments_in (8 * lines.0) (4 * words.0) segment_count.0 code.1
  _ ← judged (length segments.1 == 0) Trailing segments.1
  Ok (record { memory_lines = lines.0; code = code.0; segments = segments.0 })

-- a fault with the number of its byte, counted from 0
abbrev pub at_byte : {A : Type 0} → ℕ → Result A Fault → Result A Fault
at_byte size (Ok x) = Ok x
at_byte size (Err fault) = Err (fault.0, size - fault.1)

-- The image that bytes spell, or their first fault.
abbrev pub image_meaning : List ℕ → Result ImageValue Fault
image_meaning bytes = at_byte (length bytes) (image_in bytes)
