-- Timetables that were worked out apart from the code, and what is told of them.
use Rattle.std.specs.Prelude.{◌≡◌, ℕ, false, Option, Some, None, List, [], ◌∷◌, ◌++◌}
use Rattle.mips_isa.specs.declared.Instr.{Instr}
use Rattle.mips_isa.specs.declared.Instr.TheVariants.{Shift, AluImm, BranchTwo, Lw, Cas, Halt}
use Rattle.mips_isa.specs.declared.ShiftOp.TheVariants.{Sll}
use Rattle.mips_isa.specs.declared.ImmOp.TheVariants.{Addiu}
use Rattle.access_log.specs.declared.field.Field.{Field}
use Rattle.access_log.specs.declared.field.Field.TheVariants as fields
use Rattle.access_log.specs.declared.field.Found.{Found}
use Rattle.access_log.specs.declared.field.Found.TheVariants as founds
use Rattle.timetable.specs.declared.rows.TimeRow.{TimeRow}
use Rattle.row_check.specs.declared.difference.Difference.{Difference}
use Rattle.row_check.specs.Judgments.{first_told}
use Rattle.row_check.specs.Rows.{rows_judged}

abbrev pub row : ℕ → ℕ → ℕ → ℕ → Option ℕ → ℕ → Option ℕ → TimeRow
row i f d e a m w = record { i = i; f = f; d = d; e = e; a = a; m = m; w = w }

-- What is told of rows from line 1 on, by a bound and a limit.
abbrev pub told_of : Option ℕ → Option ℕ → List (Option Instr) → Option Instr → List TimeRow → Option Difference
told_of bound limit instrs stop rows = first_told (rows_judged 1 bound limit [] instrs stop rows)

-- where words and answers come at once
abbrev pub told_at_once : Option ℕ → List (Option Instr) → Option Instr → List TimeRow → Option Difference
told_at_once limit instrs stop rows = told_of (Some 0) limit instrs stop rows

abbrev pub differs : ℕ → Field → ℕ → Found → Difference
differs line field kept found = record { line = line; field = field; kept = founds.Number kept; found = found }

-- `lw $8, 256($0)`, and the row of a load that comes first
abbrev pub load : Option Instr
load = Some (Lw 8 0 256)

abbrev pub loaded : TimeRow
loaded = row 1 1 2 3 (Some 4) 4 (Some 5)

-- a load whose word and whose answer come three clocks late
abbrev pub loaded_late : TimeRow
loaded_late = row 4 4 5 6 (Some 10) 10 (Some 11)

-- `beq $8, $0, 1`, and its delay slot
abbrev pub branch : Option Instr
branch = Some (BranchTwo false 8 0 1)

abbrev pub nop : Option Instr
nop = Some (Shift Sll 0 0 0)

abbrev pub branching : List (Option Instr)
branching = load ∷ branch ∷ nop ∷ []

-- The branch waits two cycles for what the load brings.
abbrev pub branched : List TimeRow
branched = loaded ∷ row 2 2 5 6 None 7 (Some 8) ∷ row 3 5 6 7 None 8 (Some 9) ∷ []

pub record WorkedRowsAreTold : Type 0 where
  -- a halt behind the branch
  pub halted : told_at_once None branching (Some Halt) (branched ++ row 6 6 7 8 None 9 None ∷ []) ≡ None
  -- a halt that has a W
  pub written : told_at_once None branching (Some Halt) (branched ++ row 6 6 7 8 None 9 (Some 10) ∷ [])
      ≡ Some (differs 4 fields.W 10 founds.Nothing)
  -- a budget that is just enough, and one that is a cycle short
  pub spent : told_at_once (Some 8) branching (Some Halt) branched ≡ None
  pub late : told_at_once (Some 7) branching (Some Halt) branched ≡ Some (differs 3 fields.M 8 founds.Nothing)
  -- a branch that doesn't wait, by what is told of its D
  pub hasty : told_at_once None (load ∷ branch ∷ []) (Some Halt) (loaded ∷ row 2 2 3 4 None 5 (Some 6) ∷ [])
      ≡ Some (differs 2 fields.D 3 (founds.Number 5))
  -- a word that comes a cycle late, though all behind it goes by it
  pub fetched : told_at_once None (load ∷ nop ∷ []) (Some Halt) (loaded ∷ row 3 3 4 5 None 6 (Some 7) ∷ [])
      ≡ Some (differs 2 fields.I 3 (founds.Number 2))
  -- `addiu $8, $0, 1` between the two: nothing is waited for
  pub overwritten : told_at_once None (load ∷ Some (AluImm Addiu 8 0 1) ∷ branch ∷ []) (Some Halt)
      (loaded ∷ row 2 2 3 4 None 5 (Some 6) ∷ row 3 3 4 5 None 6 (Some 7) ∷ [])
      ≡ None
  -- `cas $8, $0, $0`, which waits for the word that it expects
  pub expected : told_at_once None (load ∷ Some (Cas 8 0 0) ∷ []) (Some Halt) (loaded ∷ row 2 2 5 6 (Some 7) 7 (Some 8) ∷ []) ≡ None
  -- `lw $0, 256($0)` and `beq $0, $0, 1`: register 0 is never waited for
  pub zero : told_at_once None (Some (Lw 0 0 256) ∷ Some (BranchTwo false 0 0 1) ∷ []) (Some Halt)
      (loaded ∷ row 2 2 3 4 None 5 (Some 6) ∷ [])
      ≡ None
  -- a stop off the code
  pub off_code : told_at_once None [] None (row 1 1 2 3 None 4 None ∷ []) ≡ None

-- what is told of a single row of a load
abbrev pub told_of_load : Option ℕ → Option ℕ → TimeRow → Option Difference
told_of_load bound limit row = told_of bound limit (load ∷ []) (Some Halt) (row ∷ [])

-- and of one of `nop`
abbrev pub told_of_nop : Option ℕ → Option ℕ → TimeRow → Option Difference
told_of_nop bound limit row = told_of bound limit (nop ∷ []) (Some Halt) (row ∷ [])

pub record WorkedRowsAreBounded : Type 0 where
  -- without a bound a word and an answer may come late, and what is behind goes by them
  pub late : told_of None None (load ∷ branch ∷ []) (Some Halt)
      (loaded_late ∷ row 9 9 11 12 None 13 (Some 14) ∷ row 12 12 13 14 None 15 None ∷ [])
      ≡ None
  -- but not before they are asked
  pub word_early : told_of None None (load ∷ nop ∷ []) (Some Halt) (loaded_late ∷ row 4 5 6 10 None 11 (Some 12) ∷ [])
      ≡ Some (differs 2 fields.I 4 (founds.Number 5))
  pub answer_early : told_of_load None None (row 4 4 5 6 (Some 6) 7 (Some 8)) ≡ Some (differs 1 fields.A 6 (founds.Number 7))
  -- an access without an answer, and an answer without an access
  pub unanswered : told_of_load None None (row 4 4 5 6 None 7 (Some 8))
      ≡ Some (record { line = 1; field = fields.A; kept = founds.Nothing; found = founds.Number 7 })
  pub unasked : told_of_nop None None (row 4 4 5 6 (Some 7) 7 (Some 8)) ≡ Some (differs 1 fields.A 7 founds.Nothing)
  -- off the code no word is waited for, though the one before it came late
  pub off_code : told_of None None (load ∷ []) None (loaded_late ∷ row 5 5 6 10 None 11 None ∷ []) ≡ None
  pub off_code_late : told_of None None (load ∷ []) None (loaded_late ∷ row 6 6 7 10 None 11 None ∷ [])
      ≡ Some (differs 2 fields.I 6 (founds.Number 5))
  -- with the bound 3 they are three clocks late at the most
  pub bounded : told_of_load (Some 3) None loaded_late ≡ None
  pub word_late : told_of_load (Some 3) None (row 5 5 6 7 (Some 8) 8 (Some 9)) ≡ Some (differs 1 fields.I 5 (founds.Number 4))
  pub answer_late : told_of_load (Some 3) None (row 4 4 5 6 (Some 11) 11 (Some 12)) ≡ Some (differs 1 fields.A 11 (founds.Number 10))
  pub word_soon : told_of_load (Some 3) None (row 0 0 1 2 (Some 3) 3 (Some 4)) ≡ Some (differs 1 fields.I 0 (founds.Number 1))
  -- the access of the last row, found answered at the end of a budget of 9
  pub found : told_of_load None (Some 9) loaded_late ≡ None
  pub found_bounded : told_of_load (Some 3) (Some 9) loaded_late ≡ None
  -- one that is answered later
  pub found_later : told_of_load None (Some 8) loaded_late ≡ Some (differs 1 fields.M 10 founds.Nothing)
  -- one behind which another row comes
  pub found_before : told_of None (Some 9) (load ∷ nop ∷ []) (Some Halt) (loaded_late ∷ row 5 5 6 10 None 11 (Some 12) ∷ [])
      ≡ Some (differs 1 fields.M 10 founds.Nothing)
  -- an instruction without an access
  pub found_nothing : told_of_nop None (Some 9) (row 7 7 8 9 None 10 (Some 11)) ≡ Some (differs 1 fields.M 10 founds.Nothing)
  -- and where answers come at once, none is found at the end
  pub found_at_once : told_at_once (Some 3) (load ∷ []) (Some Halt) (loaded ∷ []) ≡ Some (differs 1 fields.M 4 founds.Nothing)
  -- a core that stopped has no limit
  pub unlimited : told_of None None (load ∷ []) (Some Halt) (loaded_late ∷ row 5 5 6 10 None 11 None ∷ []) ≡ None
