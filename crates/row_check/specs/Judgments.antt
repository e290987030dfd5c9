-- What a row keeps and what is due there, field by field, and the first field that differs.
use Rattle.std.specs.Prelude.{ℕ, Bool, true, false, ◌==◌, if◌then◌else◌, List, [], ◌∷◌, Option, Some, None}
use Rattle.mips_isa.specs.declared.Stop.{Stop}
use Rattle.mips_isa.specs.declared.Stop.TheVariants.{OffCode, Halt, Misaligned, Outside, CodeWrite}
use Rattle.access_log.specs.declared.field.Field.{Field}
use Rattle.access_log.specs.declared.field.Field.TheVariants as fields
use Rattle.access_log.specs.declared.field.Found.{Found}
use Rattle.access_log.specs.declared.field.Found.TheVariants as founds
use Rattle.timetable.specs.declared.End.{End}
use Rattle.timetable.specs.declared.End.TheVariants.{Stopped, Spent}
use Rattle.row_check.specs.declared.difference.Difference.{Difference}

-- One field of the row at a line: what is kept there, what is due, and whether these are the same.
pub record Judgment : Type 0 where
  pub line : ℕ
  pub field : Field
  pub kept : Found
  pub due : Found
  pub same : Bool

-- a number
abbrev pub number : ℕ → Field → ℕ → ℕ → Judgment
number line field kept due = record { line = line; field = field; kept = founds.Number kept; due = founds.Number due; same = kept == due }

abbrev pub found_optional : Option ℕ → Found
found_optional None = founds.Nothing
found_optional (Some n) = founds.Number n

abbrev pub is_same_optional : Option ℕ → Option ℕ → Bool
is_same_optional None None = true
is_same_optional (Some a) (Some b) = a == b
is_same_optional a b = false

-- a number, or none
abbrev pub optional : ℕ → Field → Option ℕ → Option ℕ → Judgment
optional line field kept due =
    record { line = line; field = field; kept = found_optional kept; due = found_optional due; same = is_same_optional kept due }

-- a word
abbrev pub word : ℕ → Field → ℕ → ℕ → Judgment
word line field kept due = record { line = line; field = field; kept = founds.Hex kept; due = founds.Hex due; same = kept == due }

abbrev pub is_same_stop : Stop → Stop → Bool
is_same_stop OffCode OffCode = true
is_same_stop Halt Halt = true
is_same_stop Misaligned Misaligned = true
is_same_stop Outside Outside = true
is_same_stop CodeWrite CodeWrite = true
is_same_stop a b = false

abbrev pub is_same_end : End → End → Bool
is_same_end (Stopped a) (Stopped b) = is_same_stop a b
is_same_end Spent Spent = true
is_same_end a b = false

-- an end as it stands in a field
abbrev pub found_end : End → Found
found_end (Stopped stop) = founds.End (Some stop)
found_end Spent = founds.End None

-- why a core went no further
abbrev pub end : ℕ → End → End → Judgment
end line kept due = record { line = line; field = fields.End; kept = found_end kept; due = found_end due; same = is_same_end kept due }

-- a number that is kept, or nothing is due
abbrev pub allowed : ℕ → Field → ℕ → Bool → Judgment
allowed line field kept may = record { line = line; field = field; kept = founds.Number kept; due = founds.Nothing; same = may }

-- a judgment that differs, told
abbrev pub told : Judgment → Difference
told judgment = record { line = judgment.line; field = judgment.field; kept = judgment.kept; found = judgment.due }

-- the first of the judgments that differs
abbrev pub first_told : List Judgment → Option Difference
first_told [] = None
first_told (judgment ∷ more) = if judgment.same then first_told more else Some (told judgment)
