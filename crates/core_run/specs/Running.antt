-- A core on its side of a memory: while it runs on and when it has ended, the calls of its cycles, and how its engine was served.
use Rattle.std.specs.Prelude.{◌≡◌, ℕ, ◌+◌, ◌<◌, ◌≤◌, ◌==◌, if◌then◌else◌, Bool, true, false, ◌&&◌, ◌||◌, not, is_some, Option, Some}
use Rattle.std.specs.Prelude.{None, List, [], ◌++◌, length, map}
use Rattle.mips_isa.specs.declared.Stop.{Stop}
use Rattle.access_log.specs.declared.Entry.{Entry}
use Rattle.access_log.specs.Stamps.{Stamp, stamped}
use Rattle.timetable.specs.declared.End.{End}
use Rattle.timetable.specs.declared.End.TheVariants.{Stopped, Spent}
use Rattle.mem_port.specs.declared.port.Port.TheVariants.{Fetch, Access}
use Rattle.mem_port.specs.declared.port.PortState.TheVariants.{Free}
use Rattle.mem_port.specs.declared.port.Withdrawal.{Withdrawal}
use Rattle.mem_port.specs.declared.engine.Progress.{Progress}
use Rattle.mem_port.specs.declared.engine.Progress.TheVariants as progress
use Rattle.mem_port.specs.Loaded.{stop}
use Rattle.mem_port.specs.Calls.{Call}
use Rattle.mem_port.specs.Engine.{EngineView}
use Rattle.mem_port.specs.ServiceHistory.{ServiceHistory, is_unmet}
use Rattle.mem_port.specs.Side.{SideView}
use Rattle.core_run.specs.declared.lane.Lane.{Lane}
use Rattle.core_run.specs.declared.lane.Came.{Came}
use Rattle.core_run.specs.Cycle.{cycle_calls, end_calls, lane_after}
use Rattle.core_run.specs.Lanes.{HasCome, IsCoupled, IsFinished, IsClosed, IsNoTighter, bound_of}

-- An end is the stop at which the core stands, within the budget, or comes after the whole budget.
abbrev pub EndFits : End → ℕ → ℕ → Option Stop → Type 0
EndFits (Stopped why) budget cycles stops_at = (stops_at ≡ Some why) × (cycles ≤ budget)
EndFits Spent budget cycles stops_at = cycles ≡ budget

-- How a cycle ends a core, if it does.
abbrev pub end_after : Progress → ℕ → ℕ → Option End
end_after (progress.Stopped why) cycles budget = Some (Stopped why)
end_after progress.Running cycles budget = if cycles == budget then Some Spent else None

-- Whether a core that ended so could go on: where its budget is spent.
abbrev pub goes_on : Option End → Bool
goes_on (Some (Stopped why)) = false
goes_on end = true

-- A core that runs on after so many cycles: it has come to where its engine stands, and there are clocks and asks for the rest of
-- the budget.
pub record IsOn (budget : ℕ) (s : SideView) (e : EngineView) (lane : Lane) (cycles : ℕ) : Type 0 where
  pub coupled : IsCoupled e s lane
  pub runs : HasCome e s.taken
  pub live : e.is_live ≡ true
  pub more : cycles < budget
  pub clocks : budget ≤ e.clocks_left + cycles
  pub fetches : budget ≤ s.asks_left (Fetch lane.core) + cycles
  pub accesses : budget ≤ s.asks_left (Access lane.core) + cycles

-- A core that has ended after so many cycles: it has come to where its engine stands, and nothing is open.
pub record IsOver (budget : ℕ) (s : SideView) (e : EngineView) (lane : Lane) (end : End) (cycles : ℕ) : Type 0 where
  pub finished : IsFinished e s lane.core
  pub runs : HasCome e s.taken
  pub fits : EndFits end budget cycles (stop e.image e.state)

-- By its end, if there is one.
abbrev pub IsOnOrOver : Option End → ℕ → SideView → EngineView → Lane → ℕ → Type 0
IsOnOrOver None budget s e lane cycles = IsOn budget s e lane cycles
IsOnOrOver (Some end) budget s e lane cycles = IsOver budget s e lane end cycles

-- The calls of the end of a core, where it ends.
abbrev pub AreOfEnd : Bool → Lane → List Call → Type 0
AreOfEnd false lane calls = calls ≡ []
AreOfEnd true lane calls = (access : Withdrawal) × ((fetch : Withdrawal) × (calls ≡ end_calls lane access fetch))

-- The calls of a core's cycle with a choice, and those of its end, where this cycle is its last one.
pub record AreOfCycle (core choice : ℕ) (is_last : Bool) (calls : List Call) : Type 0 where
  pub engine : EngineView
  pub lane : Lane
  pub came : Came
  pub ending : List Call
  pub lane_is : lane.core ≡ core
  pub are : calls ≡ cycle_calls choice engine lane came ++ ending
  pub step : is_some came.step ≡ (is_unmet engine.access came.reply || is_unmet engine.fetch came.fetched)
  pub ends : AreOfEnd is_last (lane_after engine lane came) ending

-- The engine of a core on its side was served by this history so far: it had a clock in each cycle of its core, and its accesses are
-- those that its core has taken.
pub record IsServedAt {E : Type 0} (view : E → EngineView) (times : ServiceHistory → E → Type 0) (s : SideView) (engine : E) (lane : Lane)
    (end : Option End) (cycles : ℕ) (history : ServiceHistory) : Type 0 where
  pub tells : times history engine
  pub clocks : history.service.clocks ≡ cycles
  pub accesses : map (λ (stamp : Stamp). stamp.entry) history.service.accesses ≡ s.taken
  pub bound : history.bound ≡ bound_of s
  pub live : (view engine).is_live ≡ (goes_on end && not history.is_drained)
  -- Where the core stopped, none of its accesses was open.
  pub stopped : goes_on end ≡ false → history.is_drained ≡ false
  pub tight : end ≡ None → IsNoTighter history s lane
  -- Where each answer comes as its request is served, nothing is open, and the budget didn't end while something was.
  pub at_once : history.bound ≡ Some 0 → IsClosed lane × (history.is_drained ≡ false)

-- At most one access is received in a cycle.
pub record ReceivesOne (cycle : ℕ) (before after : ServiceHistory) : Type 0 where
  pub more : List Entry
  pub one : length more ≤ 1
  pub received : after.service.accesses ≡ before.service.accesses ++ stamped cycle more

-- A core's side before its first call, with so many asks for each of its ports.
pub record IsUnused (asks core : ℕ) (s : SideView) : Type 0 where
  pub fetch : s.port (Fetch core) ≡ Free
  pub access : s.port (Access core) ≡ Free
  pub fetches : s.asks_left (Fetch core) ≡ asks
  pub accesses : s.asks_left (Access core) ≡ asks
  pub taken : s.taken ≡ []
