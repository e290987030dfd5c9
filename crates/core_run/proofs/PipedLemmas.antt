-- A core with five stages before its first turn.
use Rattle.std.proofs.Common.{◌≡◌, ℕ, ◌≤◌, None, arith}
use Rattle.image_file.specs.Value.{ImageValue}
use Rattle.mem_port.specs.Engine.{IsSound}
use Rattle.mem_port.specs.ServiceHistory.{ServiceHistory, IsFirstHistory}
use Rattle.pipe_core.specs.PipeView.{PipeValue, pipe_view}
use Rattle.pipe_core.specs.PipeView as pipe
use Rattle.pipe_core.specs.PipeHistory.{pipe_timed}
use Rattle.core_run.specs.Lanes.{IsStarted, IsClosed}
use Rattle.core_run.specs.Outcomes.{IsStartSlot}
use Rattle.core_run.specs.declared.serial.CoreSlot.{CoreSlot}

-- The slot of such a core before its first turn.
pub record IsFirstPiped (image : ImageValue) (cores budget core : ℕ) (s : CoreSlot PipeValue) : Type 0 where
  pub slot : IsStartSlot image core cores budget (pipe_view s.engine) s.lane s.end s.cycles
  pub timed : (history : ServiceHistory) → IsFirstHistory history → pipe_timed history s.engine

-- The slot that was made with its engine.
pub first-piped : (image : ImageValue) (cores budget core : ℕ) (engine : PipeValue) (s : CoreSlot PipeValue)
    → pipe.IsStarted image core cores budget engine → IsSound (pipe_view engine)
    → ((history : ServiceHistory) → IsFirstHistory history → pipe_timed history engine) → s.engine ≡ engine → s.lane.core ≡ core
    → IsClosed s.lane → s.end ≡ None → s.cycles ≡ 0 → IsFirstPiped image cores budget core s
first-piped image cores budget core engine s started sound timed is lane_is closed no_end no_cycle =
    let view : IsStarted image core cores (pipe_view engine) = record {
      image_is = started.image_is;
      core_is = started.core_is;
      cores_are = started.cores_are;
      executed = started.executed;
      state = started.state;
      live = started.live;
      sound = sound;
    } in
    let left : budget ≤ (pipe_view engine).clocks_left = (let clocks = started.clocks in omega arith) in
    record {
      slot = record {
        engine = rw is view;
        clocks = rw is left;
        lane_is = lane_is;
        closed = closed;
        no_end = no_end;
        no_cycle = no_cycle;
      };
      timed = rw is timed;
    }
