-- The instructions that an engine executed, and their rows.
use Rattle.std.specs.Prelude.{◌≡◌, ℕ, Option, Some, List, [], length, map, slice_get}
use Rattle.std.specs.List.{AllByRecursion}
use Rattle.mips_isa.specs.declared.Instr.{Instr}
use Rattle.mips_isa.specs.declared.CoreState.{CoreState}
use Rattle.image_file.specs.Value.{ImageValue, memory_bytes, start_state}
use Rattle.access_log.specs.Stamps.{Stamp}
use Rattle.timetable.specs.declared.rows.TimeRow.{TimeRow}
use Rattle.timetable.specs.Trace.{walks, trace}
use Rattle.pipe_core.specs.Chain.{state_of}
use Rattle.pipe_core.specs.PipeView.{PipeValue}

-- What accesses found.
abbrev pub olds_of : List Stamp → List ℕ
olds_of accesses = map (λ (stamp : Stamp). stamp.entry.old) accesses

-- The row of an access has its clock.
abbrev pub HasClock : List TimeRow → Stamp → Type 0
HasClock rows stamp = (row : TimeRow) × ((slice_get rows stamp.entry.nth ≡ Some row) × (row.a ≡ Some stamp.cycle))

-- Instructions are those that a core executed up to a state, which made these accesses, and the rows of these have their
-- clocks.
pub record AreOf (image : ImageValue) (core cores executed : ℕ) (state : CoreState) (accesses : List Stamp)
    (instrs : List (Option Instr)) (rows : List TimeRow) : Type 0 where
  pub walked : walks image.code (memory_bytes image) executed (start_state image core cores) (olds_of accesses)
      ≡ Some (record { state = state; olds = [] })
  pub instrs_are : instrs ≡ trace image.code (memory_bytes image) executed (start_state image core cores) (olds_of accesses)
  pub count : length rows ≡ executed
  pub clocks : AllByRecursion (HasClock rows) accesses

abbrev pub AreRun : PipeValue → List Stamp → List (Option Instr) → List TimeRow → Type 0
AreRun pipe accesses instrs rows =
    AreOf pipe.image pipe.core pipe.cores pipe.flight.executed (state_of pipe.flight) accesses instrs rows
