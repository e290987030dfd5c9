-- How the timetable of a core ends.
use Rattle.std.specs.Prelude.{◌≡◌, ℕ, zero, ◌+◌, ◌*◌, ◌<◌, ◌≤◌, ◌⊎◌, Option, Some, None, List, [], ◌∷◌, ◌++◌}
use Rattle.mips_isa.specs.declared.Instr.{Instr}
use Rattle.timetable.specs.declared.rows.TimeRow.{TimeRow}
use Rattle.timetable.specs.Tables.{Timed, prior, IsTable, IsStopRow, past_of}
use Rattle.timetable.specs.AtOnce.{first_m}

-- Rows of a core that stopped: those of the instructions that it executed, and that of its stop, which is decided in its last
-- cycle.
pub record EndsInStop (bound : Option ℕ) (instrs : List (Option Instr)) (instr : Option Instr)
    (cycles : ℕ) (rows : List TimeRow) : Type 0 where
  pub earlier : List TimeRow
  pub row : TimeRow
  pub are : rows ≡ earlier ++ row ∷ []
  pub table : IsTable bound [] instrs earlier
  pub last : IsStopRow bound (past_of [] instrs earlier) instr row
  pub at : row.m ≡ cycles

-- The row of an access that was still open when the budget was spent, and was found answered as it was withdrawn then: the
-- answer counts as one in the cycle that would come next.
pub record IsFoundAtEnd (budget : ℕ) (row : TimeRow) : Type 0 where
  pub a : row.a ≡ Some (budget + 1)
  pub m : row.m ≡ budget + 1

abbrev pub IsDoneByEnd : ℕ → TimeRow → Type 0
IsDoneByEnd budget row = (row.m ≤ budget) ⊎ IsFoundAtEnd budget row

-- The last row is within the budget. Only where an answer may come later than in the cycle in which it is asked, an access may
-- be open at the end.
abbrev pub IsLastBy : Option ℕ → ℕ → TimeRow → Type 0
IsLastBy (Some zero) budget row = row.m ≤ budget
IsLastBy bound budget row = IsDoneByEnd budget row

-- What comes next would not be done within the budget, even with its word and its answer as late as the bound allows. Without a
-- bound nothing is told of it.
abbrev pub IsBeyond : Option ℕ → ℕ → List Timed → Option Instr → Type 0
IsBeyond None budget past instr = Unit {0}
IsBeyond (Some bound) budget past instr = budget < first_m past instr + 2 * bound

-- Rows of a core whose budget was spent: those of the instructions that it executed.
pub record EndsSpent (bound : Option ℕ) (instrs : List (Option Instr)) (instr : Option Instr)
    (budget : ℕ) (rows : List TimeRow) : Type 0 where
  pub table : IsTable bound [] instrs rows
  pub within : IsLastBy bound budget (prior (past_of [] instrs rows))
  pub no_more : IsBeyond bound budget (past_of [] instrs rows) instr
