-- One core's engine and its side of a memory.
use Rattle.std.specs.Prelude.{◌≡◌, ℕ, ◌+◌, Bool, true, false, IsTrue, Option, Some, None, option_map, if◌then◌else◌, List, ◌≤◌}
use Rattle.mips_isa.specs.declared.Stop.{Stop}
use Rattle.image_file.specs.Value.{ImageValue, memory_bytes, start_state}
use Rattle.access_log.specs.Requests.{fetch_of}
use Rattle.access_log.specs.Alone.{ComesTo}
use Rattle.access_log.specs.declared.request.Request.{Request}
use Rattle.access_log.specs.declared.Entry.{Entry}
use Rattle.mem_port.specs.Loaded.{stop}
use Rattle.mem_port.specs.declared.port.Port.{Port}
use Rattle.mem_port.specs.declared.port.Port.TheVariants.{Fetch, Access}
use Rattle.mem_port.specs.declared.engine.Progress.{Progress}
use Rattle.mem_port.specs.declared.engine.Progress.TheVariants as progress
use Rattle.mem_port.specs.Engine.{EngineView, IsSound}
use Rattle.mem_port.specs.ServiceHistory.{ServiceHistory, after_clock}
use Rattle.mem_port.specs.Side.{PortPhase, Unasked, Sent, Served, Shut, port_phase, SideView, KeepsSide, LeavesPort}
use Rattle.core_run.specs.declared.lane.Lane.{Lane}
use Rattle.core_run.specs.declared.lane.Came.{Came}
use Rattle.core_run.specs.Cycle.{wait_left}

-- The core of an engine comes by itself, with these accesses, to where the engine stands.
pub record HasCome (e : EngineView) (accesses : List Entry) : Type 0 where
  pub comes : ComesTo e.image.code (memory_bytes e.image) (start_state e.image e.core e.cores) accesses e.executed e.state

-- A request is asked and served.
pub record SideSends (p : Port) (r : Request) (old new : SideView) : Type 0 where
  pub kept : KeepsSide old new
  pub other : LeavesPort p old new
  pub port : port_phase (new.port p) ≡ Served r
  pub asks : new.asks_left p + 1 ≡ old.asks_left p
  pub taken : new.taken ≡ old.taken
  pub remaining_wait : IsTrue old.tells_distances → new.remaining_wait p ≤ old.bound

-- Where a port of a core is open, what is wanted was served there; else nothing was asked.
abbrev pub PortHolds : Bool → PortPhase → Option Request → Type 0
PortHolds true port None = ⊥
PortHolds true port (Some r) = port ≡ Served r
PortHolds false port want = port ≡ Unasked

-- An engine and its side belong together.
pub record IsCoupled (e : EngineView) (s : SideView) (lane : Lane) : Type 0 where
  pub core : e.core ≡ lane.core
  pub image : e.image ≡ s.image
  pub cores : e.cores ≡ s.cores
  pub sound : IsSound e
  pub fetch : PortHolds lane.open_fetch (port_phase (s.port (Fetch lane.core))) (option_map fetch_of e.fetch)
  pub access : PortHolds lane.open_access (port_phase (s.port (Access lane.core))) e.access

-- An engine that isn't live has come to a stop.
abbrev pub StopsWhereDead : EngineView → Type 0
StopsWhereDead e = e.is_live ≡ false → (why : Stop) × (stop e.image e.state ≡ Some why)

-- A port that isn't open has an ask left.
pub record HasAsks (s : SideView) (lane : Lane) : Type 0 where
  pub fetch : lane.open_fetch ≡ false → 1 ≤ s.asks_left (Fetch lane.core)
  pub access : lane.open_access ≡ false → 1 ≤ s.asks_left (Access lane.core)

-- How a cycle ended: the core runs on, or stands at this stop.
abbrev pub Progressed : Progress → EngineView → Type 0
Progressed progress.Running e = e.is_live ≡ true
Progressed (progress.Stopped why) e = (e.is_live ≡ false) × (stop e.image e.state ≡ Some why)

-- No request is on a port, and none was served.
abbrev pub IsQuiet : PortPhase → Type 0
IsQuiet Unasked = Unit {0}
IsQuiet (Sent r) = ⊥
IsQuiet (Served r) = ⊥
IsQuiet Shut = Unit {0}

-- A core has ended: nothing is open.
pub record IsFinished (e : EngineView) (s : SideView) (core : ℕ) : Type 0 where
  pub core_is : e.core ≡ core
  pub image : e.image ≡ s.image
  pub cores : e.cores ≡ s.cores
  pub fetch : IsQuiet (port_phase (s.port (Fetch core)))
  pub access : IsQuiet (port_phase (s.port (Access core)))

-- No request is open.
pub record IsClosed (lane : Lane) : Type 0 where
  pub fetch : lane.open_fetch ≡ false
  pub access : lane.open_access ≡ false

-- By how many own steps at most an answer comes later than it could have, where distances are told.
abbrev pub bound_of : SideView → Option ℕ
bound_of s = if s.tells_distances then Some s.bound else None

-- A history that is no tighter than a side: each want may stay unmet for as long at least as its request may wait.
pub record IsNoTighter (history : ServiceHistory) (s : SideView) (lane : Lane) : Type 0 where
  pub bound : history.bound ≡ bound_of s
  pub fetch : IsTrue s.tells_distances → wait_left lane.open_fetch (s.remaining_wait (Fetch lane.core)) s.bound ≤ history.fetch_left
  pub access : IsTrue s.tells_distances → wait_left lane.open_access (s.remaining_wait (Access lane.core)) s.bound ≤ history.access_left

-- The history behind a cycle of an engine, with what came and the side and the lane behind it.
abbrev pub history_after : Came → EngineView → SideView → Lane → ServiceHistory → ServiceHistory
history_after came e s lane history = record {
  service = after_clock came.fetched came.reply e history.service;
  bound = history.bound;
  fetch_left = wait_left lane.open_fetch (s.remaining_wait (Fetch lane.core)) s.bound;
  access_left = wait_left lane.open_access (s.remaining_wait (Access lane.core)) s.bound;
  is_drained = history.is_drained;
}

-- An engine at its start.
pub record IsStarted (image : ImageValue) (core cores : ℕ) (e : EngineView) : Type 0 where
  pub image_is : e.image ≡ image
  pub core_is : e.core ≡ core
  pub cores_are : e.cores ≡ cores
  pub executed : e.executed ≡ 0
  pub state : e.state ≡ start_state image core cores
  pub live : e.is_live ≡ true
  pub sound : IsSound e
