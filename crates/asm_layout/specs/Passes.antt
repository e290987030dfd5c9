-- What is wrong with the statements of a source, in passes.
use Rattle.std.specs.Prelude.{◌≡◌, ℕ, ◌+◌, ◌*◌, ◌^◌, Bool, not, true, ◌==◌, ◌&&◌, ◌||◌, nat_lt, nat_le, if◌then◌else◌, List, [], ◌∷◌, ◌++◌}
use Rattle.std.specs.Prelude.{Option, Some, None, is_some, min, Result, Ok, Err}
use Rattle.std.specs.Borrow.{Bor}
use Rattle.std.specs.BTreeMap.{BTreeMap}
use Rattle.kmp_base.specs.declared.fault.FaultAt.{FaultAt}
use Rattle.kmp_base.specs.declared.fault.FaultAt.TheVariants as located
use Rattle.asm_token.specs.declared.fault.AsmCause.{AsmCause}
use Rattle.asm_token.specs.declared.fault.AsmCause.TheVariants.{LabelTwice, LabelMissing, NoCode, TooMuch, Range}
use Rattle.asm_parse.specs.declared.statement.Body.{Body}
use Rattle.asm_parse.specs.declared.statement.Body.TheVariants.{Label, DataAt, Word, BranchTo, JumpTo, Load}
use Rattle.asm_parse.specs.declared.statement.Statement.{Statement}
use Rattle.asm_parse.specs.declared.statement.Value.{Value}
use Rattle.asm_parse.specs.declared.statement.Value.TheVariants as values
use Rattle.kmp_base.specs.Names.{named}
use Rattle.asm_layout.specs.declared.place.Place.{Place}
use Rattle.asm_layout.specs.Places.{code_size, data_size, code_behind, code_end, place_behind}
use Rattle.asm_layout.specs.Labels.{Addresses, labels_from, labels_of, HoldsLabels}

-- the first of two that is there
abbrev pub or_else : {A : Type 0} → Option A → Option A → Option A
or_else None other = other
or_else (Some x) other = Some x

abbrev pub fault_if : Bool → AsmCause → Option AsmCause
fault_if wrong cause = if wrong then Some cause else None

-- what is wrong, and the line
abbrev pub at_line : ℕ → Option AsmCause → Option (AsmCause × ℕ)
at_line line None = None
at_line line (Some cause) = Some (cause, line)

-- A pass tests each statement beside those before it. The first one with a fault answers with its line.
unfoldable pub first_fault : (List Statement → Statement → Option AsmCause) → List Statement → List Statement → Option (AsmCause × ℕ)
first_fault test before [] = None
first_fault test before (s ∷ ss) = or_else (at_line s.line (test before s)) (first_fault test (before ++ s ∷ []) ss)

-- No statement has code. No line is at fault, which is told as line 0.
abbrev pub code_pass : List Statement → Option (AsmCause × ℕ)
code_pass ss = at_line 0 (fault_if (code_behind ss == 0) NoCode)

-- a label that stands before
abbrev pub twice_fault : Addresses → Body → Option AsmCause
twice_fault before (Label name) = fault_if (is_some (named before name)) LabelTwice
twice_fault before other = None

abbrev pub twice_test : ℕ → List Statement → Statement → Option AsmCause
twice_test end before s = twice_fault (labels_from end [] before) s.body

-- bytes behind an end that go past a limit
abbrev pub goes_past : ℕ → ℕ → ℕ → Bool
goes_past limit end size = nat_lt 0 size && nat_lt limit (end + size)

-- A segment starts behind the code and the segment before it, and within the memory. Code has at most 65,536 words, and
-- all words lie in the memory.
abbrev pub room_fault : ℕ → Place → Body → Option AsmCause
room_fault memory place (DataAt start) = fault_if (nat_lt start place.data_end || nat_lt memory start) Range
room_fault memory place body =
    fault_if (goes_past (min memory (4 * 65536)) place.code_end (code_size body) || goes_past memory place.data_end (data_size body))
    TooMuch

abbrev pub room_test : ℕ → ℕ → List Statement → Statement → Option AsmCause
room_test memory end before s = room_fault memory (place_behind end before) s.body

-- A branch at `here` reaches an address that is -32,768 to 32,767 words from the next instruction, and below 4 times 65,538.
abbrev pub branch_reaches : ℕ → ℕ → Bool
branch_reaches here address =
    nat_lt address (4 * 65538) && nat_le (here + 4) (address + 4 * 32768) && nat_le address (here + 4 * 32768)

-- a jump reaches an address below 268,435,456
abbrev pub jump_reaches : ℕ → Bool
jump_reaches address = nat_lt address (2 ^ 28)

-- what is wrong with a label: it stands nowhere, or its address does not serve
abbrev pub label_fault : Addresses → (ℕ → Bool) → List ℕ → Option AsmCause
label_fault labels serves name = elim (named labels name) [
  | None ↦ Some LabelMissing
  | Some address ↦ fault_if (not (serves address)) Range
]

abbrev pub value_fault : Addresses → Value → Option AsmCause
value_fault labels (values.Number n) = None
value_fault labels (values.Of name) = label_fault labels (λ _. true) name

-- what is wrong with the operand of a statement whose code is at `here`
abbrev pub operand_fault : Addresses → ℕ → Body → Option AsmCause
operand_fault labels here (BranchTo instr name) = label_fault labels (branch_reaches here) name
operand_fault labels here (JumpTo link name) = label_fault labels jump_reaches name
operand_fault labels here (Load rt value) = value_fault labels value
operand_fault labels here (Word value) = value_fault labels value
operand_fault labels here other = None

abbrev pub operand_test : Addresses → List Statement → Statement → Option AsmCause
operand_test labels before s = operand_fault labels (code_behind before) s.body

-- The first fault of the passes, in their order: there is code; no label stands twice; all has room in so many bytes of
-- memory; the operands name labels that serve.
unfoldable pub layout_fault : ℕ → List Statement → Option (AsmCause × ℕ)
layout_fault memory ss =
    or_else (code_pass ss)
    (or_else (first_fault (twice_test (code_end ss)) [] ss)
    (or_else (first_fault (room_test memory (code_end ss)) [] ss)
    (first_fault (operand_test (labels_of ss)) [] ss)))

-- A function fails by a fault and its line, or for want of memory.
abbrev pub FailsBy : Option (AsmCause × ℕ) → FaultAt AsmCause → Type 0
FailsBy fault located.Memory = Unit {0}
FailsBy fault (located.At cause line) = fault ≡ Some (cause, line)

-- What a layout in so many bytes of memory answers: the labels, where nothing is wrong, or the first fault, or want of memory.
abbrev pub LaysOut : ℕ → List Statement → Result (BTreeMap (Bor (List ℕ)) ℕ) (FaultAt AsmCause) → Type 0
LaysOut memory ss (Ok labels) = (layout_fault memory ss ≡ None) × HoldsLabels labels (labels_of ss)
LaysOut memory ss (Err error) = FailsBy (layout_fault memory ss) error
