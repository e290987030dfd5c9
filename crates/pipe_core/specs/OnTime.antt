-- The clocks that the stages hold are those of a timetable, as far as their instructions have come.
use Rattle.std.specs.Prelude.{ℕ, Option, Some, None, List, ◌∷◌}
use Rattle.pipe_regs.specs.declared.Slot.{Slot}
use Rattle.timetable.specs.declared.rows.TimeRow.{TimeRow}
use Rattle.timetable.specs.Tables.{Timed, timed, Takes, Begins, Decodes, Executes}
use Rattle.pipe_core.specs.declared.flight.Times.{Times}
use Rattle.pipe_core.specs.declared.flight.Flight.{Flight}

-- The row of an instruction in M, EX or ID, where the clocks that it has not come to are those of any row.
abbrev pub mem_row : Times → TimeRow → TimeRow
mem_row times any = record { i = times.i; f = times.f; d = times.d; e = times.e; a = any.a; m = any.m; w = any.w }

abbrev pub ex_row : Times → TimeRow → TimeRow
ex_row times any = record { i = times.i; f = times.f; d = times.d; e = any.e; a = any.a; m = any.m; w = any.w }

abbrev pub id_row : Times → TimeRow → TimeRow
id_row times any = record { i = times.i; f = times.f; d = any.d; e = any.e; a = any.a; m = any.m; w = any.w }

-- A past with the instruction of a stage.
abbrev pub onto : Option Slot → TimeRow → List Timed → List Timed
onto None row past = past
onto (Some slot) row past = timed slot.instr row ∷ past

abbrev pub ExecutesIn : Option ℕ → List Timed → Option Slot → Times → Type 0
ExecutesIn bound past None times = Unit {0}
ExecutesIn bound past (Some slot) times = Executes bound past slot.instr times.i times.f times.d times.e

abbrev pub DecodesIn : Option ℕ → List Timed → Option Slot → Times → Type 0
DecodesIn bound past None times = Unit {0}
DecodesIn bound past (Some slot) times = Decodes bound past slot.instr times.i times.f times.d

abbrev pub BeginsIn : Option ℕ → List Timed → Option Slot → Times → Type 0
BeginsIn bound past None times = Unit {0}
BeginsIn bound past (Some slot) times = Begins bound past slot.instr times.i times.f

abbrev pub TakenIn : Option ℕ → List Timed → Option Slot → Times → Type 0
TakenIn bound past None times = Unit {0}
TakenIn bound past (Some slot) times = Takes bound past slot.instr times.i

-- The clocks so far are those of the recurrence, behind the rows so far, whatever the clocks to come are.
pub record IsOnTime (bound : Option ℕ) (past : List Timed) (mem ex id fetch : Option Slot)
    (mem_times ex_times id_times fetch_times : Times) : Type 0 where
  pub mem_on : ExecutesIn bound past mem mem_times
  pub ex_on : (in_mem : TimeRow) → DecodesIn bound (onto mem (mem_row mem_times in_mem) past) ex ex_times
  pub id_on : (in_mem in_ex : TimeRow)
      → BeginsIn bound (onto ex (ex_row ex_times in_ex) (onto mem (mem_row mem_times in_mem) past)) id id_times
  pub fetch_on : (in_mem in_ex in_id : TimeRow)
      → TakenIn bound (onto id (id_row id_times in_id) (onto ex (ex_row ex_times in_ex) (onto mem (mem_row mem_times in_mem) past))) fetch
      fetch_times

abbrev pub IsTimely : Option ℕ → List Timed → Flight → Type 0
IsTimely bound past flight =
    IsOnTime bound past flight.stages.mem flight.stages.ex flight.stages.id flight.fetch flight.mem_times flight.ex_times flight.id_times
    flight.fetch_times
