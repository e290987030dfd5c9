-- What an engine with five stages tells of its times, by how it was served.
use Rattle.std.specs.Prelude.{◌≡◌, ℕ, ◌+◌, ◌*◌, ◌≤◌, Bool, true, false, Option, Some, None, IsSome, is_some, List, [], ◌∷◌, ◌++◌, length}
use Rattle.mips_isa.specs.declared.Instr.{Instr}
use Rattle.pipe_regs.specs.declared.Slot.{Slot}
use Rattle.timetable.specs.declared.rows.TimeRow.{TimeRow}
use Rattle.timetable.specs.Tables.{prior, IsTable, IsStopRow, past_of}
use Rattle.timetable.specs.Ends.{IsDoneByEnd}
use Rattle.timetable.specs.Trace.{instr_on}
use Rattle.mem_port.specs.ServiceHistory.{Service, UsesService, ServiceHistory, one_if}
use Rattle.pipe_core.specs.declared.flight.Flight.{Flight}
use Rattle.pipe_core.specs.Wants.{access_in, fetch_in}
use Rattle.pipe_core.specs.Chain.{state_of, IsChained}
use Rattle.pipe_core.specs.Punctual.{last_f, IsTimed}
use Rattle.pipe_core.specs.PipeView.{PipeValue}
use Rattle.pipe_core.specs.PipeRun.{AreRun}

-- A want that may stay unmet for so many clocks more is met within the bound, counted from the clock in which what made it
-- left the stage before.
abbrev pub IsMetWithin : Option ℕ → ℕ → ℕ → ℕ → Type 0
IsMetWithin None clocks left since = Unit {0}
IsMetWithin (Some bound) clocks left since = clocks + left ≤ since + bound

-- How many stages the oldest instruction has left: one in ID has left IF.
abbrev pub stages_left : Option Slot → Option Slot → Option Slot → ℕ
stages_left (Some oldest) ex id = 3
stages_left None (Some oldest) id = 2
stages_left None None (Some oldest) = 1
stages_left None None None = 0

-- How many instructions are under way.
abbrev pub under_way : Flight → ℕ
under_way flight =
    one_if (is_some flight.stages.mem) + one_if (is_some flight.stages.ex) + one_if (is_some flight.stages.id) + one_if
    (is_some flight.fetch)

-- In each clock in which no want stays unmet, the oldest instruction leaves a stage.
pub record UsesClocks (service : Service) (flight : Flight) : Type 0 where
  pub clocks : service.clocks
      ≤ 4 * flight.executed + stages_left flight.stages.mem flight.stages.ex flight.stages.id + service.unmet
  pub words : service.words ≤ flight.executed + under_way flight
  pub accesses : length service.accesses ≤ flight.executed

-- A live engine.
pub record IsUnderWay (history : ServiceHistory) (pipe : PipeValue) : Type 0 where
  pub drained : history.is_drained ≡ false
  pub clocks : history.service.clocks ≡ pipe.clocks
  pub chained : IsChained pipe.image.code (state_of pipe.flight) pipe.flight
  pub timed : IsTimed history.bound pipe.image pipe.clocks pipe.flight pipe.table
  pub fetch_soon : IsSome (fetch_in pipe.image pipe.flight)
      → IsMetWithin history.bound pipe.clocks history.fetch_left (last_f (past_of [] pipe.table.instrs pipe.table.rows) pipe.flight)
  pub access_soon : IsSome (access_in pipe.image pipe.flight.executed pipe.flight.stages.mem)
      → IsMetWithin history.bound pipe.clocks history.access_left pipe.flight.mem_times.e
  pub run : AreRun pipe history.service.accesses pipe.table.instrs pipe.table.rows
  pub uses : UsesClocks history.service pipe.flight

-- An engine that stopped: the last row is that of the stop.
pub record HasStopped (history : ServiceHistory) (pipe : PipeValue) : Type 0 where
  pub before : List (Option Instr)
  pub earlier : List TimeRow
  pub row : TimeRow
  pub rows_are : pipe.table.rows ≡ earlier ++ row ∷ []
  pub table : IsTable history.bound [] before earlier
  pub last : IsStopRow history.bound (past_of [] before earlier) (instr_on pipe.image.code (state_of pipe.flight).dpc) row
  pub at : row.m ≡ history.service.clocks
  pub run : AreRun pipe history.service.accesses before earlier
  pub uses : UsesService history.service pipe.flight.executed

-- An engine whose budget ended while an access was wanted: its last row is within the budget, or is that of this access.
pub record IsDrained (history : ServiceHistory) (pipe : PipeValue) : Type 0 where
  pub table : IsTable history.bound [] pipe.table.instrs pipe.table.rows
  pub within : IsDoneByEnd history.service.clocks (prior (past_of [] pipe.table.instrs pipe.table.rows))
  pub run : AreRun pipe history.service.accesses pipe.table.instrs pipe.table.rows
  pub uses : UsesService history.service pipe.flight.executed

-- By whether it is live, and whether its budget ended so.
abbrev pub told_by : Bool → Bool → ServiceHistory → PipeValue → Type 0
told_by true is_drained history pipe = IsUnderWay history pipe
told_by false true history pipe = IsDrained history pipe
told_by false false history pipe = HasStopped history pipe

abbrev pub pipe_timed : ServiceHistory → PipeValue → Type 0
pipe_timed history pipe = told_by pipe.live history.is_drained history pipe
