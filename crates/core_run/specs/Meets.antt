-- The parts of a cycle of a core and of its end: what each leaves of the core's side.
use Rattle.std.specs.Prelude.{◌≡◌, ℕ, ◌+◌, ◌-◌, ◌≤◌, ◌||◌, Bool, true, IsTrue, is_some, Option, Some, None, option_map, List, [], ◌++◌}
use Rattle.image_file.specs.Value.{ImageValue}
use Rattle.access_log.specs.Requests.{fetch_of}
use Rattle.access_log.specs.declared.request.Request.{Request}
use Rattle.access_log.specs.declared.Entry.{Entry}
use Rattle.mem_port.specs.declared.port.Port.{Port}
use Rattle.mem_port.specs.declared.port.Port.TheVariants.{Fetch, Access}
use Rattle.mem_port.specs.declared.port.Moved.{Moved}
use Rattle.mem_port.specs.declared.port.Moved.TheVariants as moved
use Rattle.mem_port.specs.declared.port.Withdrawal.{Withdrawal}
use Rattle.mem_port.specs.Calls.{Call, Lead}
use Rattle.mem_port.specs.Engine.{EngineView, FetchFits, ReplyFits}
use Rattle.mem_port.specs.ServiceHistory.{is_unmet, one_if, executed_by}
use Rattle.mem_port.specs.Ports.{core_of, IsWaiting}
use Rattle.mem_port.specs.Side.{SideView, KeepsSide, LeavesPort, SideStays, IsAnswer, port_phase}
use Rattle.core_run.specs.declared.lane.Lane.{Lane}
use Rattle.core_run.specs.declared.lane.Came.{Came}
use Rattle.core_run.specs.Cycle.{opens, lane_after, wait_left, late_reply, UsesAsks, WaitsLess, WasOn}
use Rattle.core_run.specs.Lanes.{PortHolds, IsQuiet}

-- These calls were made for a core, and so many steps moved something: it is served on, and all others are left.
pub record Makes {S : Type 0} (serves : S → ℕ → Type 0) (makes : Call → S → S → Type 0) (leaves : ℕ → S → S → Type 0)
    (pays : ℕ → ℕ → S → S → Type 0)
    (core : ℕ) (calls : List Call) (steps : ℕ) (s t : S) : Type 0 where
  pub serves_on : serves t core
  pub lead : Lead makes calls s t
  pub others : leaves core s t
  pub paid : pays core steps s t

-- What is wanted on a port is open there: it was open, or was asked and served.
pub record Opens (p : Port) (is_open : Bool) (want : Option Request) (old new : SideView) : Type 0 where
  pub kept : KeepsSide old new
  pub other : LeavesPort p old new
  pub port : PortHolds (is_some want) (port_phase (new.port p)) want
  pub asks : new.asks_left p + one_if (is_some (opens is_open want)) ≡ old.asks_left p
  pub taken : new.taken ≡ old.taken
  pub remaining_wait : IsTrue old.tells_distances → is_some want ≡ true
      → new.remaining_wait p ≤ wait_left is_open (old.remaining_wait p) old.bound

-- The entries of an answer on a port.
abbrev pub entries_by : Port → Option Request → Option ℕ → List Entry
entries_by (Fetch core) want answer = []
entries_by (Access core) want answer = executed_by core want answer

-- An answer is to what is wanted.
abbrev pub Fits : ImageValue → Port → Option Request → Option ℕ → Type 0
Fits image p want None = Unit {0}
Fits image p None (Some word) = ⊥
Fits image p (Some r) (Some word) = IsAnswer image p r word

-- The answer to what is wanted on a port is taken, if it is there.
pub record TakesUp (p : Port) (want : Option Request) (answer : Option ℕ) (old new : SideView) : Type 0 where
  pub kept : KeepsSide old new
  pub other : LeavesPort p old new
  pub port : PortHolds (is_unmet want answer) (port_phase (new.port p)) want
  pub asks : new.asks_left p ≡ old.asks_left p
  pub taken : new.taken ≡ old.taken ++ entries_by p want answer
  pub fits : Fits old.image p want answer
  pub remaining_wait : IsTrue old.tells_distances → is_unmet want answer ≡ true → (1 ≤ old.remaining_wait p)
      × (new.remaining_wait p ≤ old.remaining_wait p)

-- One step is made where something is open, else none.
pub record StepsOn (core : ℕ) (is_open : Bool) (step : Option Moved) (old new : SideView) : Type 0 where
  pub step_is : is_some step ≡ is_open
  pub stays : SideStays core old new
  pub idle : step ≡ Some moved.Idle → (q : Port) → core_of q ≡ core → IsWaiting (new.port q) → ⊥
  pub remaining_wait : IsTrue old.tells_distances → is_open ≡ true → (q : Port) → core_of q ≡ core
      → new.remaining_wait q ≤ old.remaining_wait q - 1

-- A cycle of a core but for its engine's clock.
pub record Meets (e : EngineView) (lane : Lane) (came : Came) (old new : SideView) : Type 0 where
  pub kept : KeepsSide old new
  pub step : is_some came.step ≡ (is_unmet e.access came.reply || is_unmet e.fetch came.fetched)
  pub fetch : PortHolds (is_unmet e.fetch came.fetched) (port_phase (new.port (Fetch lane.core))) (option_map fetch_of e.fetch)
  pub access : PortHolds (is_unmet e.access came.reply) (port_phase (new.port (Access lane.core))) e.access
  pub fetch_fits : FetchFits e.image e.fetch came.fetched
  pub reply_fits : ReplyFits e.access came.reply
  pub taken : new.taken ≡ old.taken ++ executed_by e.core e.access came.reply
  pub asks : UsesAsks e lane old new
  pub waits : WaitsLess old new lane (lane_after e lane came)
  pub idle : came.step ≡ Some moved.Idle → (q : Port) → core_of q ≡ lane.core → IsWaiting (new.port q) → ⊥

-- What is open on a port is withdrawn.
pub record Closes (p : Port) (is_open : Bool) (want : Option Request) (answer : Withdrawal) (old new : SideView) : Type 0 where
  pub kept : KeepsSide old new
  pub other : LeavesPort p old new
  pub port : IsQuiet (port_phase (new.port p))
  pub asks : new.asks_left p ≡ old.asks_left p
  pub taken : new.taken ≡ old.taken ++ entries_by p want (late_reply is_open answer)
  pub was : is_open ≡ true → (r : Request) → want ≡ Some r → WasOn (old.port p) r answer
