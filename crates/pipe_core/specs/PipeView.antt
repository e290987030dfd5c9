-- What an engine with five stages means, and what is true of it at every moment.
use Rattle.std.specs.Prelude.{◌≡◌, ℕ, ◌+◌, ◌-◌, ◌≤◌, ◌⊎◌, Bool, true, false, Option, Some, None, []}
use Rattle.mips_isa.specs.declared.Stop.{Stop}
use Rattle.image_file.specs.Value.{ImageValue, IsGood, start_state}
use Rattle.timetable.specs.Tables.{IsTable}
use Rattle.mem_port.specs.declared.engine.Progress.{Progress}
use Rattle.mem_port.specs.declared.engine.Progress.TheVariants as progress
use Rattle.mem_port.specs.Engine.{EngineView}
use Rattle.pipe_core.specs.declared.flight.Flight.{Flight}
use Rattle.pipe_core.specs.Steps.{IsFit}
use Rattle.pipe_core.specs.Wants.{stop_in, access_in, fetch_in}
use Rattle.pipe_core.specs.Clock.{flight_after}
use Rattle.pipe_core.specs.Table.{TableValue, table_after}
use Rattle.pipe_core.specs.Chain.{state_of, IsChained}
use Rattle.pipe_core.specs.Passage.{IsPassage}
use Rattle.pipe_core.specs.Punctual.{IsTimed, EndInStop}

pub record PipeValue : Type 0 where
  pub image : ImageValue
  pub core : ℕ
  pub cores : ℕ
  pub budget : ℕ
  -- The clocks so far, whether it may be clocked again, what is under way, and the rows so far.
  pub clocks : ℕ
  pub live : Bool
  pub flight : Flight
  pub table : TableValue

-- The value of an engine with these fields.
abbrev pub pipe_of : ImageValue → ℕ → ℕ → ℕ → ℕ → Bool → Flight → TableValue → PipeValue
pipe_of image core cores budget clocks live flight table = record {
  image = image;
  core = core;
  cores = cores;
  budget = budget;
  clocks = clocks;
  live = live;
  flight = flight;
  table = table;
}

abbrev pub view_of : ImageValue → ℕ → ℕ → ℕ → Bool → Flight → EngineView
view_of image core cores clocks_left live flight = record {
  image = image;
  core = core;
  cores = cores;
  executed = flight.executed;
  state = state_of flight;
  fetch = fetch_in image flight;
  access = access_in image flight.executed flight.stages.mem;
  is_live = live;
  clocks_left = clocks_left;
}

abbrev pub pipe_view : PipeValue → EngineView
pipe_view pipe = view_of pipe.image pipe.core pipe.cores (pipe.budget - pipe.clocks) pipe.live pipe.flight

abbrev pub live_clock : Bool → ℕ
live_clock true = 1
live_clock false = 0

-- What holds before and after every call.
pub record IsPipe (pipe : PipeValue) : Type 0 where
  pub good : IsGood pipe.image
  pub chained : IsChained pipe.image.code (state_of pipe.flight) pipe.flight
  pub fit : IsFit pipe.flight
  pub within : pipe.clocks ≤ pipe.budget
  pub small : pipe.budget ≤ 100000
  pub executed : pipe.flight.executed + live_clock pipe.live ≤ pipe.clocks + 1
  pub spare : pipe.budget + live_clock pipe.live ≤ pipe.clocks + pipe.table.spare
  pub rows : IsTable None [] pipe.table.instrs pipe.table.rows ⊎ EndInStop None pipe.table.instrs pipe.table.rows
  pub timed : pipe.live ≡ true → IsTimed None pipe.image pipe.clocks pipe.flight pipe.table

-- An engine at the beginning.
pub record IsStarted (image : ImageValue) (core cores budget : ℕ) (pipe : PipeValue) : Type 0 where
  pub image_is : pipe.image ≡ image
  pub core_is : pipe.core ≡ core
  pub cores_are : pipe.cores ≡ cores
  pub clocks : (pipe_view pipe).clocks_left ≡ budget
  pub live : pipe.live ≡ true
  pub state : state_of pipe.flight ≡ start_state image core cores
  pub executed : pipe.flight.executed ≡ 0
  pub rows : pipe.table.rows ≡ []
  pub instrs : pipe.table.instrs ≡ []

abbrev pub progress_of : Option Stop → Progress
progress_of None = progress.Running
progress_of (Some why) = progress.Stopped why

-- What a clock of an engine with five stages does beside what each engine's does: it stops exactly where the instruction in
-- M has a stop; the number of the clock is the time that moves get; a row is added exactly where an instruction is executed
-- or stops.
pub record PipeClocks (fetched reply : Option ℕ) (result : Progress) (old new : PipeValue) : Type 0 where
  pub decides : result ≡ progress_of (stop_in old.image old.flight.stages.mem)
  pub counts : new.clocks ≡ old.clocks + 1
  pub moves : new.flight
      ≡ flight_after (stop_in old.image old.flight.stages.mem) old.image fetched reply new.clocks old.flight
  pub passes : IsPassage new.clocks old.flight new.flight
  pub adds : new.table
      ≡ table_after (stop_in old.image old.flight.stages.mem) old.image reply new.clocks old.flight old.table
