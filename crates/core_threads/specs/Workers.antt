-- A core on a thread, with its pass.
use Rattle.std.specs.Prelude.{◌≡◌, ℕ, ◌<◌, Option, Some, None, List, []}
use Rattle.timetable.specs.declared.End.{End}
use Rattle.mem_port.specs.declared.memory.MemoryCore.{Ghosts}
use Rattle.mem_port.specs.Engine.{EngineView}
use Rattle.mem_port.specs.Memory.{IsFresh}
use Rattle.mem_port.specs.ServiceHistory.{ServiceHistory, IsFirstHistory}
use Rattle.core_run.specs.Running.{IsOver, IsServedAt}
use Rattle.core_run.specs.Outcomes.{IsStartSlot}
use Rattle.turn.specs.declared.views.CoreView.{CoreView}
use Rattle.turn.specs.declared.pass.Turn.{Turn}
use Rattle.turn.specs.declared.pass.Pass.{Pass}
use Rattle.turn.specs.Rule.{joined_cores}
use Rattle.turn.specs.Views.{open_of}
use Rattle.turn.specs.Passes.{IsOf, IsFirst, HasMade, first_view, own, all_cores, side}
use Rattle.core_threads.specs.declared.work.Worker.{Worker}
use Rattle.core_threads.specs.Runs.{HasRun}

-- The memory of a turn before its first call, with so many asks for each port.
abbrev pub IsFreshFor : {M : Type 0} {g : Ghosts M} → Turn M g → ℕ → Type 0
IsFreshFor turn asks = IsFresh (first_view turn).image (first_view turn).cores asks (first_view turn).caches (first_view turn)

module _ {E M : Type 0} {g : Ghosts M} where
  -- A core before its first cycle, with its pass of a new turn.
  pub record IsReady (view : E → EngineView) (turn : Turn M g) (budget core : ℕ) (w : Worker E M g) : Type 0 where
    pub slot : IsStartSlot (first_view turn).image core (first_view turn).cores budget (view w.slot.engine) w.slot.lane w.slot.end
        w.slot.cycles
    pub within : core < (first_view turn).cores
    pub pass : IsFirst turn core w.pass

  -- A core that has ended, and to whose pass no other was joined.
  pub record HasEnded (view : E → EngineView) (turn : Turn M g) (budget core : ℕ) (w : Worker E M g) : Type 0 where
    pub turn_is : IsOf turn w.pass
    pub core_is : w.pass.core ≡ core
    pub lane_is : w.slot.lane.core ≡ core
    pub lone : joined_cores (all_cores w.pass) ≡ []
    pub end : End
    pub ends : w.slot.end ≡ Some end
    pub over : IsOver budget (side turn w.pass) (view w.slot.engine) w.slot.lane end w.slot.cycles

  -- What a core's thread has done: the core has ended, its pass made the calls of its run, and its engine was served.
  pub record HasWorked (view : E → EngineView) (times : ServiceHistory → E → Type 0) (turn : Turn M g) (budget core : ℕ)
      (old new : Worker E M g) : Type 0 where
    pub ended : HasEnded view turn budget core new
    pub made : HasRun (HasMade turn) core new.slot.cycles old.pass new.pass
    pub served : ((history : ServiceHistory) → IsFirstHistory history → times history old.slot.engine)
        → (history : ServiceHistory)
        × IsServedAt view times (side turn new.pass) new.slot.engine new.slot.lane new.slot.end new.slot.cycles history

  -- A core that has ended, with no open request, and to whose pass no other was joined.
  pub record IsAlone (turn : Turn M g) (w : Worker E M g) : Type 0 where
    pub turn_is : IsOf turn w.pass
    pub lone : joined_cores (all_cores w.pass) ≡ []
    pub rest : open_of (own w.pass) ≡ 0
    pub ended : (end : End) × (w.slot.end ≡ Some end)

-- The cores for which a pass speaks, if there is one.
abbrev pub cores_of : {M : Type 0} {g : Ghosts M} → Option (Pass M g) → List CoreView
cores_of None = []
cores_of (Some pass) = all_cores pass
