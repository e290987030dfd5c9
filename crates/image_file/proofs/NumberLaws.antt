-- The numbers of an image have four bytes each, where the words of its segments have.
use Rattle.std.proofs.Common.{◌≡◌, ℕ, ◌+◌, ◌*◌, ◌/◌, ◌%◌, ◌^◌, ◌<◌, ◌≤◌, inl, inr, false, ◌==◌, None, List, [], ◌∷◌, length, get_or}
use Rattle.std.proofs.Common.{refl, lit<, arith}
use Rattle.std.specs.Option.{IsSome}
use Rattle.std.specs.List.{AllByRecursion, flat_map}
use Rattle.std.proofs.lemmas.Bool.{cases_lt, ne_eqb}
use Rattle.std.proofs.lemmas.List.Elements.{recursion_from_All}
use Rattle.std_laws.proofs.ListLaws.{AllByRecursion-append}
use Rattle.mips_isa.specs.Fields.{five_bits, instr_of, immediate_of}
use Rattle.mips_isa.specs.Steps.{IsCode}
use Rattle.image_file.specs.Value.{ImageValue, SegmentValue, segment_numbers, image_numbers, memory_bytes, IsNumber, AreApart, HasWords}

-- opcodes have six bits
no_immediate : (opcode rs rt imm : ℕ) → 64 ≤ opcode → immediate_of opcode rs rt imm ≡ None
unfolding immediate_of
no_immediate opcode rs rt imm past =
    let other : (k : ℕ) → k < 64 → (opcode == k) ≡ false = λ k below. ne_eqb opcode k (λ e. omega arith) in
    rw (
      other 1 (lit< tt),
      other 4 (lit< tt),
      other 5 (lit< tt),
      other 6 (lit< tt),
      other 7 (lit< tt),
      other 8 (lit< tt),
      other 9 (lit< tt),
      other 10 (lit< tt),
      other 11 (lit< tt),
      other 12 (lit< tt),
      other 13 (lit< tt),
      other 14 (lit< tt),
      other 15 (lit< tt),
      other 35 (lit< tt),
      other 43 (lit< tt),
    ) refl

no_instruction : (word : ℕ) → 2 ^ 32 ≤ word → instr_of word ≡ None
unfolding instr_of
no_instruction word past =
    let opcode : 64 ≤ word / 2 ^ 26 = omega arith in
    let other : (k : ℕ) → k < 64 → (word / 2 ^ 26 == k) ≡ false = λ k below. ne_eqb (word / 2 ^ 26) k (λ e. omega arith) in
    rw (
      other 0 (lit< tt),
      other 2 (lit< tt),
      other 3 (lit< tt),
      other 63 (lit< tt),
      no_immediate (word / 2 ^ 26) (five_bits 21 word) (five_bits 16 word) (word % 2 ^ 16) opcode,
    ) refl

instruction_fits : (word : ℕ) → IsSome (instr_of word) → IsNumber word
instruction_fits word is = elim (cases_lt word (2 ^ 32)) [
  | inl below ↦ below
  | inr past ↦ (let no = rw (no_instruction word past) at is in cc)
]

code_fits : (code : List ℕ) → IsCode code → AllByRecursion IsNumber code
code_fits code are = recursion_from_All IsNumber code (λ k d below. instruction_fits (get_or code k d) (are k d below))

-- what is behind a segment ends within memory
pub apart_within : (end memory : ℕ) (segments : List SegmentValue) → AreApart end memory segments → end ≤ memory
apart_within end memory [] apart = apart
apart_within end memory (segment ∷ segments) apart =
    omega (arith, apart.1, apart_within (segment.start + 4 * length segment.words) memory segments apart.2)

segments_fit : (end memory : ℕ) (segments : List SegmentValue) → memory < 2 ^ 32 → AreApart end memory segments
    → AllByRecursion HasWords segments → AllByRecursion IsNumber (flat_map segment_numbers segments)
segments_fit end memory [] few apart words = tt
segments_fit end memory (segment ∷ segments) few apart words =
    let behind = segment.start + 4 * length segment.words in
    let within = apart_within behind memory segments apart.2 in (
      omega (arith, within),
      (
        omega (arith, within),
        AllByRecursion-append IsNumber segment.words (flat_map segment_numbers segments) words.0
            (segments_fit behind memory segments few apart.2 words.1),
      ),
    )

pub numbers_fit : (image : ImageValue) → image.memory_lines ≤ 2 ^ 21 → length image.code ≤ 2 ^ 16 → length image.segments < 2 ^ 32
    → IsCode image.code → AreApart (4 * length image.code) (memory_bytes image) image.segments → AllByRecursion HasWords image.segments
    → AllByRecursion IsNumber (image_numbers image)
numbers_fit image lines words segments code apart segment_words = (
  lit< tt,
  (
    omega arith,
    (
      omega arith,
      (
        omega arith,
        AllByRecursion-append IsNumber image.code (flat_map segment_numbers image.segments)
            (code_fits image.code code) (segments_fit (4 * length image.code) (memory_bytes image) image.segments (omega arith) apart
            segment_words),
      ),
    ),
  ),
)
