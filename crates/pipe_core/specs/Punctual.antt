-- Nothing waits without a cause.
use Rattle.std.specs.Prelude.{◌≡◌, ℕ, ◌+◌, ◌*◌, ◌≤◌, ◌⊎◌, true, Option, Some, None, List, [], ◌∷◌, ◌++◌, length}
use Rattle.mips_isa.specs.declared.Instr.{Instr}
use Rattle.mips_isa.specs.Effects.{is_off_code}
use Rattle.pipe_regs.specs.declared.Slot.{Slot}
use Rattle.timetable.specs.declared.rows.TimeRow.{TimeRow}
use Rattle.timetable.specs.Tables.{Timed, prior, ready_in, ready_for, IsStopRow, IsTable, past_of}
use Rattle.image_file.specs.Value.{ImageValue}
use Rattle.pipe_core.specs.declared.flight.Times.{Times}
use Rattle.pipe_core.specs.declared.flight.Flight.{Flight}
use Rattle.pipe_core.specs.declared.flight.Operands.{Operands}
use Rattle.pipe_core.specs.Moves.{operands_of}
use Rattle.pipe_core.specs.Wants.{access_in, place_of}
use Rattle.pipe_core.specs.Table.{TableValue}
use Rattle.pipe_core.specs.OnTime.{onto, IsTimely}

-- No clock of a stage lies ahead, also where the stage is empty.
pub record TimesBelow (clock : ℕ) (times : Times) : Type 0 where
  pub i : times.i ≤ clock
  pub f : times.f ≤ clock
  pub d : times.d ≤ clock
  pub e : times.e ≤ clock

-- No clock of the rows so far lies ahead, and all that they load is there in the next clock.
pub record IsPast (clock : ℕ) (past : List Timed) : Type 0 where
  pub f : (prior past).f ≤ clock
  pub d : (prior past).d ≤ clock
  pub e : (prior past).e ≤ clock
  pub m : (prior past).m ≤ clock
  pub ready : (register : ℕ) → ready_in past register ≤ clock + 1

-- The clock in which the last instruction that has left IF did so.
abbrev pub last_in : Option Slot → Option Slot → Option Slot → Times → Times → Times → List Timed → ℕ
last_in (Some slot) ex mem id_times ex_times mem_times past = id_times.f
last_in None (Some slot) mem id_times ex_times mem_times past = ex_times.f
last_in None None (Some slot) id_times ex_times mem_times past = mem_times.f
last_in None None None id_times ex_times mem_times past = (prior past).f

abbrev pub last_f : List Timed → Flight → ℕ
last_f past flight =
    last_in flight.stages.id flight.stages.ex flight.stages.mem flight.id_times flight.ex_times flight.mem_times past

-- After a clock, what stands in a stage has come there in that clock, or it waits for an answer, for an operand, or for the
-- stage before it. An operand that is there was waited for where its load was executed in that clock. Where IF is empty off
-- the code, an instruction has left it in that clock.
pub record IsPunctual (image : ImageValue) (clock : ℕ) (past : List Timed) (flight : Flight) : Type 0 where
  pub before : IsPast clock past
  pub mem_below : TimesBelow clock flight.mem_times
  pub ex_below : TimesBelow clock flight.ex_times
  pub id_below : TimesBelow clock flight.id_times
  pub fetch_below : TimesBelow clock flight.fetch_times
  pub mem_now : (slot : Slot) → flight.stages.mem ≡ Some slot → access_in image flight.executed flight.stages.mem ≡ None
      → flight.mem_times.e ≡ clock
  pub ex_now : (slot : Slot) → flight.stages.ex ≡ Some slot → flight.stages.mem ≡ None → flight.ex_times.d ≡ clock
  pub id_now : (slot : Slot) (read : Operands) → flight.stages.id ≡ Some slot → flight.stages.ex ≡ None
      → operands_of slot.instr flight.stages ≡ Some read
      → (flight.id_times.f ≡ clock) ⊎ ((in_mem : TimeRow) → ready_for (onto flight.stages.mem in_mem past) slot.instr ≡ clock + 1)
  pub fetch_now : flight.stages.id ≡ None → flight.fetch ≡ None
  pub off_now : flight.fetch ≡ None → is_off_code (4 * length image.code) (place_of flight) ≡ true → last_f past flight ≡ clock

-- Rows and stages after so many clocks of a live engine.
pub record IsTimed (bound : Option ℕ) (image : ImageValue) (clock : ℕ) (flight : Flight) (table : TableValue) : Type 0 where
  pub rows : IsTable bound [] table.instrs table.rows
  pub stages : IsTimely bound (past_of [] table.instrs table.rows) flight
  pub punctual : IsPunctual image clock (past_of [] table.instrs table.rows) flight

-- Rows of instructions that are executed, and at last that of one that stops.
pub record EndInStop (bound : Option ℕ) (instrs : List (Option Instr)) (rows : List TimeRow) : Type 0 where
  pub before : List (Option Instr)
  pub earlier : List TimeRow
  pub instr : Option Instr
  pub row : TimeRow
  pub instrs_are : instrs ≡ before ++ instr ∷ []
  pub rows_are : rows ≡ earlier ++ row ∷ []
  pub table : IsTable bound [] before earlier
  pub last : IsStopRow bound (past_of [] before earlier) instr row
