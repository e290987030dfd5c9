-- Rows so far, as much of them as the rows to come need.
use Rattle.std.specs.Prelude.{◌≡◌, ℕ, ◌+◌, ◌<◌, ◌≤◌, List, length, slice_index}
use Rattle.std.specs.List.{All}
use Rattle.timetable.specs.declared.rows.TimeRow.{TimeRow}
use Rattle.timetable.specs.Tables.{Timed, prior, ready_in}
use Rattle.row_check.specs.declared.clocks.Clocks.{Clocks}

-- The last row, and for each register the clock in which it is ready.
pub record AreOf (clocks : Clocks) (past : List Timed) : Type 0 where
  pub last : clocks.prior ≡ prior past
  pub registers : length clocks.ready ≡ 32
  pub ready : (register : ℕ) → register < 32 → slice_index clocks.ready register ≡ ready_in past register

-- No clock of a row is above a bound.
pub record IsRowWithin (bound : ℕ) (row : TimeRow) : Type 0 where
  pub i : row.i ≤ bound
  pub f : row.f ≤ bound
  pub d : row.d ≤ bound
  pub e : row.e ≤ bound
  pub m : row.m ≤ bound

-- None of the last row is, and each register is ready in the clock behind at the latest.
pub record AreWithin (bound : ℕ) (clocks : Clocks) : Type 0 where
  pub last : IsRowWithin bound clocks.prior
  pub ready : All (λ clock. clock ≤ bound + 1) clocks.ready
