-- One cycle of a core, and its end: the calls on its side of the memory in their order, and what they make of its engine.
use Rattle.std.specs.Prelude.{◌≡◌, ℕ, ◌+◌, ◌≤◌, ◌||◌, Bool, true, false, IsTrue, is_some, Option, Some, None, option_map, List, [], ◌∷◌}
use Rattle.std.specs.Prelude.{◌++◌}
use Rattle.access_log.specs.Requests.{fetch_of}
use Rattle.access_log.specs.declared.request.Request.{Request}
use Rattle.mem_port.specs.declared.port.Port.{Port}
use Rattle.mem_port.specs.declared.port.Port.TheVariants.{Fetch, Access}
use Rattle.mem_port.specs.declared.port.PortState.{PortState}
use Rattle.mem_port.specs.declared.port.PortState.TheVariants.{Answered}
use Rattle.mem_port.specs.declared.port.Moved.{Moved}
use Rattle.mem_port.specs.declared.port.Moved.TheVariants as moved
use Rattle.mem_port.specs.declared.port.Withdrawal.{Withdrawal}
use Rattle.mem_port.specs.declared.port.Withdrawal.TheVariants as withdrawal
use Rattle.mem_port.specs.declared.engine.Progress.{Progress}
use Rattle.mem_port.specs.Calls.{Call, Ask, Serve, Step, Take, Withdraw, Lead}
use Rattle.mem_port.specs.Engine.{EngineView, Clocks, Drains}
use Rattle.mem_port.specs.ServiceHistory.{ServiceHistory, AfterClock, AfterDrain, is_unmet, one_if, executed_by}
use Rattle.mem_port.specs.Ports.{core_of, IsWaiting, IsUnanswered}
use Rattle.mem_port.specs.Side.{SideView, Evolves, steps_in}
use Rattle.core_run.specs.declared.lane.Lane.{Lane}
use Rattle.core_run.specs.declared.lane.Came.{Came}

-- What is asked on a port: what is wanted, where nothing is open there.
abbrev pub opens : {W : Type 0} → Bool → Option W → Option W
opens true want = None
opens false want = want

-- A request is asked, and served.
abbrev pub sends : Port → Option Request → List Call
sends p None = []
sends p (Some r) = Ask p r ∷ Serve p ∷ []

-- The answer to what is wanted is taken, if it is there.
abbrev pub takes : {W : Type 0} → Port → Option W → Option ℕ → List Call
takes p None answer = []
takes p (Some want) answer = Take p answer ∷ []

-- At most one step.
abbrev pub steps : ℕ → Option Moved → List Call
steps choice None = []
steps choice (Some result) = Step choice result ∷ []

-- The calls of a cycle in their order: the access is asked and served before the fetch, its answer is taken before the word of
-- code, and behind these comes the step.
abbrev pub cycle_calls : ℕ → EngineView → Lane → Came → List Call
cycle_calls choice e lane came =
    sends (Access lane.core) (opens lane.open_access e.access)
    ++ (sends (Fetch lane.core) (option_map fetch_of (opens lane.open_fetch e.fetch))
    ++ (takes (Access lane.core) e.access came.reply
    ++ (takes (Fetch lane.core) e.fetch came.fetched
    ++ steps choice came.step)))

-- Behind a cycle that is open which was wanted and didn't come.
abbrev pub lane_after : EngineView → Lane → Came → Lane
lane_after e lane came = record {
  core = lane.core;
  open_fetch = is_unmet e.fetch came.fetched;
  open_access = is_unmet e.access came.reply;
}

-- A port has one ask less where something is asked there.
pub record UsesAsks (e : EngineView) (lane : Lane) (old new : SideView) : Type 0 where
  pub fetch : new.asks_left (Fetch lane.core) + one_if (is_some (opens lane.open_fetch e.fetch)) ≡ old.asks_left (Fetch lane.core)
  pub access : new.asks_left (Access lane.core) + one_if (is_some (opens lane.open_access e.access)) ≡ old.asks_left (Access lane.core)

-- How many steps moved something: one or none.
abbrev pub moved_in : Option Moved → ℕ
moved_in None = 0
moved_in (Some result) = steps_in result

-- How many own steps more a request may wait: its remaining wait where it is open, else the bound.
abbrev pub wait_left : Bool → ℕ → ℕ → ℕ
wait_left true remaining_wait bound = remaining_wait
wait_left false remaining_wait bound = bound

-- Where distances are told, a request that is open behind a cycle may wait for a step less.
pub record WaitsLess (old new : SideView) (before after : Lane) : Type 0 where
  pub fetch : IsTrue old.tells_distances → after.open_fetch ≡ true
      → new.remaining_wait (Fetch before.core) + 1 ≤ wait_left before.open_fetch (old.remaining_wait (Fetch before.core)) old.bound
  pub access : IsTrue old.tells_distances → after.open_access ≡ true
      → new.remaining_wait (Access before.core) + 1 ≤ wait_left before.open_access (old.remaining_wait (Access before.core)) old.bound

-- One cycle of a core: from an engine and a side, with what came for the engine, to the engine and the side behind it.
pub record IsCycle {E S : Type 0} (view : E → EngineView) (times : ServiceHistory → E → Type 0) (side : S → ℕ → SideView)
    (makes : Call → S → S → Type 0) (pays : ℕ → ℕ → S → S → Type 0)
    (choice : ℕ) (came : Came) (result : Progress) (e f : E) (s t : S) (before after : Lane) : Type 0 where
  -- These calls were made, and no other.
  pub calls : Lead makes (cycle_calls choice (view e) before came) s t
  -- A step is made exactly where something is open behind the takes.
  pub step : is_some came.step ≡ (after.open_access || after.open_fetch)
  pub lane : after ≡ lane_after (view e) before came
  -- The engine has one clock, with what came.
  pub clock : Clocks came.fetched came.reply result (view e) (view f)
  pub timed : (p q : ServiceHistory) → times p e → AfterClock came.fetched came.reply (view e) p q → times q f
  -- What is taken is the access that the answer executes.
  pub taken : (side t before.core).taken ≡ (side s before.core).taken ++ executed_by (view e).core (view e).access came.reply
  pub asks : UsesAsks (view e) before (side s before.core) (side t before.core)
  pub waits : WaitsLess (side s before.core) (side t before.core) before after
  -- A step that found nothing to be moved leaves nothing that waits.
  pub idle : came.step ≡ Some moved.Idle → (q : Port) → core_of q ≡ before.core → IsWaiting ((side t before.core).port q) → ⊥
  -- The step is paid by the core.
  pub paid : pays before.core (moved_in came.step) s t

-- The withdrawal of what is open on a port.
abbrev pub withdraws : Bool → Port → Withdrawal → List Call
withdraws false p answer = []
withdraws true p answer = Withdraw p answer ∷ []

-- The calls of the end of a core: what is open is withdrawn, the access before the fetch.
abbrev pub end_calls : Lane → Withdrawal → Withdrawal → List Call
end_calls lane access fetch =
    withdraws lane.open_access (Access lane.core) access ++ withdraws lane.open_fetch (Fetch lane.core) fetch

-- The word that a request had found which was withdrawn.
abbrev pub found_by : Withdrawal → Option ℕ
found_by withdrawal.Withdrawn = None
found_by (withdrawal.Answered word) = Some word

-- The answer that the end of a core finds: that of its open access, if it has one.
abbrev pub late_reply : Bool → Withdrawal → Option ℕ
late_reply false answer = None
late_reply true answer = found_by answer

-- What was on a port tells what a withdrawal answers: it was answered, or wasn't yet.
abbrev pub WasOn : PortState → Request → Withdrawal → Type 0
WasOn state r withdrawal.Withdrawn = IsUnanswered state
WasOn state r (withdrawal.Answered word) = Evolves state (Answered r word)

-- Where an access is open, an engine is drained with what became of it; else it stays as it is.
abbrev pub IsDrained : {E : Type 0} → (E → EngineView) → (ServiceHistory → E → Type 0) → Bool → Withdrawal → E → E → Type 0
IsDrained {E} view times false answer e f = f ≡ e
IsDrained {E} view times true answer e f =
    Drains (found_by answer) (view e) (view f)
    × ((p q : ServiceHistory) → times p e → AfterDrain (found_by answer) (view e) p q → times q f)

-- The end of a core: from an engine and a side, with what the withdrawals of its two ports answered, to those behind it.
pub record IsEnding {E S : Type 0} (view : E → EngineView) (times : ServiceHistory → E → Type 0) (side : S → ℕ → SideView)
    (makes : Call → S → S → Type 0) (pays : ℕ → ℕ → S → S → Type 0)
    (access fetch : Withdrawal) (e f : E) (s t : S) (before after : Lane) : Type 0 where
  -- These calls were made, and no other.
  pub calls : Lead makes (end_calls before access fetch) s t
  pub access_was : before.open_access ≡ true → (r : Request) → (view e).access ≡ Some r
      → WasOn ((side s before.core).port (Access before.core)) r access
  pub fetch_was : before.open_fetch ≡ true → (addr : ℕ) → (view e).fetch ≡ Some addr
      → WasOn ((side s before.core).port (Fetch before.core)) (fetch_of addr) fetch
  pub lane : after ≡ record { core = before.core; open_fetch = false; open_access = false }
  pub drained : IsDrained view times before.open_access access e f
  pub taken : (side t before.core).taken ≡ (side s before.core).taken
      ++ executed_by (view e).core (view e).access (late_reply before.open_access access)
  pub asks : (q : Port) → core_of q ≡ before.core → (side t before.core).asks_left q ≡ (side s before.core).asks_left q
  -- No step is made.
  pub paid : pays before.core 0 s t
