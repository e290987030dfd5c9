-- The image that the statements of a source mean.
use Rattle.std.specs.Prelude.{◌≡◌, ℕ, ◌+◌, ◌-◌, ◌*◌, ◌/◌, ◌%◌, ◌^◌, ◌<◌, Bool, true, false, if◌then◌else◌, List, [], ◌∷◌, ◌++◌, length, map}
use Rattle.std.specs.Prelude.{replicate, Some, None, unwrap_or, Result, Ok, Err}
use Rattle.mips_isa.specs.declared.Instr.{Instr}
use Rattle.mips_isa.specs.declared.Instr.TheVariants as instrs
use Rattle.mips_isa.specs.declared.ImmOp.TheVariants.{Ori}
use Rattle.mips_isa.specs.Words.{word_of}
use Rattle.image_file.specs.Value.{ImageValue, SegmentValue}
use Rattle.asm_token.specs.declared.fault.AsmCause.{AsmCause}
use Rattle.asm_parse.specs.declared.statement.Body.{Body}
use Rattle.asm_parse.specs.declared.statement.Body.TheVariants.{Data, DataAt, Word, Space, Plain, BranchTo, JumpTo, Load}
use Rattle.asm_parse.specs.declared.statement.Statement.{Statement}
use Rattle.asm_parse.specs.declared.statement.Value.{Value}
use Rattle.asm_parse.specs.declared.statement.Value.TheVariants as values
use Rattle.asm_parse.specs.Statements.{lower_half}
use Rattle.kmp_base.specs.Names.{named}
use Rattle.asm_layout.specs.Places.{code_behind, code_end}
use Rattle.asm_layout.specs.Labels.{Addresses, labels_of}
use Rattle.asm_layout.specs.Passes.{layout_fault}

-- the address of a label, as a word
abbrev pub address_of : Addresses → List ℕ → ℕ
address_of labels name = unwrap_or (named labels name) 0 % 2 ^ 32

abbrev pub word_in : Addresses → Value → ℕ
word_in labels (values.Number n) = n
word_in labels (values.Of name) = address_of labels name

-- How many words a branch at `here` goes from the next instruction, modulo 2 ^ 16.
abbrev pub distance : ℕ → ℕ → ℕ
distance here address = (address + 2 ^ 18 - (here + 4)) / 4 % 2 ^ 16

-- a branch with this immediate
abbrev pub branch_by : ℕ → Instr → Instr
branch_by imm (instrs.BranchTwo differ rs rt other) = instrs.BranchTwo differ rs rt imm
branch_by imm (instrs.BranchZero op rs other) = instrs.BranchZero op rs imm
branch_by imm other = other

-- the upper half of a word
abbrev pub upper_half : ℕ → ℕ
upper_half n = n / 2 ^ 16 % 2 ^ 16

-- Two instructions that load a word into a register, its upper half first.
abbrev pub load_of : ℕ → ℕ → List Instr
load_of rt word = instrs.Lui rt (upper_half word) ∷ instrs.AluImm Ori rt rt (lower_half word) ∷ []

-- The halves make the word up, and stand where they belong.
pub record LoadsAreWhole : Type 0 where
  pub halves : (word : ℕ) → word < 2 ^ 32 → 2 ^ 16 * upper_half word + lower_half word ≡ word
  pub worked : load_of 2 0x12345678 ≡ instrs.Lui 2 0x1234 ∷ instrs.AluImm Ori 2 2 0x5678 ∷ []

-- The instructions of a statement whose code is at `here`.
abbrev pub instrs_of : Addresses → ℕ → Body → List Instr
instrs_of labels here (Plain instr) = instr ∷ []
instrs_of labels here (BranchTo instr name) = branch_by (distance here (address_of labels name)) instr ∷ []
instrs_of labels here (JumpTo link name) = instrs.Jump link (address_of labels name / 4 % 2 ^ 26) ∷ []
instrs_of labels here (Load rt value) = load_of rt (word_in labels value)
instrs_of labels here other = []

-- The code of statements that stand behind others.
unfoldable pub code_from : Addresses → List Statement → List Statement → List ℕ
code_from labels before [] = []
code_from labels before (s ∷ ss) =
    map word_of (instrs_of labels (code_behind before) s.body) ++ code_from labels (before ++ s ∷ []) ss

-- An odd number of words is followed by one `nop`, the word 0.
abbrev pub padded : List ℕ → List ℕ
padded words = words ++ replicate (length words % 2) 0

-- the data of a statement
abbrev pub data_words : Addresses → Body → List ℕ
data_words labels (Word value) = word_in labels value ∷ []
data_words labels (Space bytes) = replicate (bytes / 4) 0
data_words labels other = []

-- the data up to the next segment
abbrev pub words_before_next : Addresses → List Body → List ℕ
words_before_next labels [] = []
words_before_next labels (DataAt start ∷ rest) = []
words_before_next labels (body ∷ rest) = data_words labels body ++ words_before_next labels rest

-- a segment for each `.data` with an address
abbrev pub addressed_segments : Addresses → List Body → List SegmentValue
addressed_segments labels [] = []
addressed_segments labels (DataAt start ∷ rest) = record { start = start; words = words_before_next labels rest }
    ∷ addressed_segments labels rest
addressed_segments labels (body ∷ rest) = addressed_segments labels rest

-- whether a `.data` without an address stands before all of those with one
abbrev pub goes_on_behind_code : List Body → Bool
goes_on_behind_code [] = false
goes_on_behind_code (DataAt start ∷ rest) = false
goes_on_behind_code (Data ∷ rest) = true
goes_on_behind_code (body ∷ rest) = goes_on_behind_code rest

-- The segments of a source whose code ends at `end`: one there, if a `.data` goes on behind the code, and those with an address.
unfoldable pub segments_of : Addresses → ℕ → List Body → List SegmentValue
segments_of labels end bodies =
    if goes_on_behind_code bodies then record { start = end; words = words_before_next labels bodies } ∷ addressed_segments labels bodies
    else addressed_segments labels bodies

-- The image of statements in a memory of so many lines of 8 bytes.
abbrev pub linked : ℕ → List Statement → ImageValue
linked memory_lines ss = record {
  memory_lines = memory_lines;
  code = padded (code_from (labels_of ss) [] ss);
  segments = segments_of (labels_of ss) (code_end ss) (map (λ s. s.body) ss);
}

-- The first fault of the layout, or the image.
unfoldable pub image_of : ℕ → List Statement → Result ImageValue (AsmCause × ℕ)
image_of memory_lines ss = elim (layout_fault (8 * memory_lines) ss) [
  | Some fault ↦ Err fault
  | None ↦ Ok (linked memory_lines ss)
]
