-- Cores that have their cycles in turn.
use Rattle.std.specs.Prelude.{◌≡◌, ℕ, ◌+◌, ◌<◌, ◌≤◌, ◌⊎◌, Bool, Option, Some, None, List, ◌++◌, length, slice_get, map, flat_map}
use Rattle.std.specs.List.{AllByRecursion}
use Rattle.kmp_base.specs.declared.setup.Turns.{Turns}
use Rattle.kmp_base.specs.declared.setup.Turns.TheVariants.{Round, Seeded}
use Rattle.access_log.specs.declared.Entry.{Entry}
use Rattle.access_log.specs.declared.Item.{Item}
use Rattle.access_log.specs.Items.{entries}
use Rattle.access_log.specs.Stamps.{Stamp, stamped, own_stamps, IsRising}
use Rattle.timetable.specs.declared.End.{End}
use Rattle.timetable.specs.declared.rows.TimeRow.{TimeRow}
use Rattle.timetable.specs.Outcome.{OutcomeValue}
use Rattle.mem_port.specs.Calls.{Call, Lead}
use Rattle.mem_port.specs.Memory.{MemoryView, IsAtOnce}
use Rattle.mem_port.specs.Engine.{EngineView}
use Rattle.mem_port.specs.ServiceHistory.{ServiceHistory}
use Rattle.mem_port.specs.Side.{side_of}
use Rattle.core_run.specs.declared.lane.Lane.{Lane}
use Rattle.core_run.specs.declared.serial.CoreSlot.{CoreSlot}
use Rattle.core_run.specs.Running.{IsOnOrOver, AreOfCycle, IsServedAt}
use Rattle.core_run.specs.Outcomes.{EndsServed, NoneWaited}

-- Turns that cores have one after the other, without threads.
abbrev pub IsSerial : Turns → Type 0
IsSerial turns = (turns ≡ Round) ⊎ (turns ≡ Seeded)

-- What holds of the slot of a core between cycles.
pub record IsSlotOf (core budget : ℕ) (m : MemoryView) (e : EngineView) (lane : Lane) (end : Option End) (cycles : ℕ) : Type 0 where
  pub lane_is : lane.core ≡ core
  pub holds : IsOnOrOver end budget (side_of m lane.core) e lane cycles

-- And where it has had its turn in so many rounds.
pub record SlotAt (core rounds budget : ℕ) (m : MemoryView) (e : EngineView) (lane : Lane) (end : Option End) (cycles : ℕ) : Type 0 where
  pub slot : IsSlotOf core budget m e lane end cycles
  pub count : end ≡ None → cycles ≡ rounds

-- The calls of a turn in a round: those of a cycle of a core, with the choice 0, and those of its end, where it ends by that.
abbrev pub IsTurn : List Call → Type 0
IsTurn calls = (core : ℕ) × ((is_last : Bool) × AreOfCycle core 0 is_last calls)

-- Turns lead from one memory to another.
abbrev pub Leads : {M : Type 0} → (Call → M → M → Type 0) → M → M → Type 0
Leads {M} makes old new = (turns : List (List Call)) × (Lead makes (flat_map (λ turn. turn) turns) old new × AllByRecursion IsTurn turns)

-- A turn of a core adds at most one access, its own.
pub record AddsOwn (core : ℕ) (more : List Entry) (old new : List Item) : Type 0 where
  pub added : entries new ≡ entries old ++ more
  pub own : AllByRecursion (λ entry. entry.core ≡ core) more
  pub one : length more ≤ 1

-- It is of a round before, or of this round and a turn before.
abbrev pub IsEarlier : ℕ → ℕ → Stamp → Type 0
IsEarlier rounds turn stamp = (stamp.cycle ≤ rounds) ⊎ ((stamp.cycle ≡ rounds + 1) × (stamp.entry.core < turn))

-- Accesses, each in the cycle in which its core received it, rise: behind so many rounds, and so many turns of the next.
pub record AreInRounds (rounds turn : ℕ) (stamps : List Stamp) : Type 0 where
  pub rising : IsRising stamps
  pub earlier : AllByRecursion (IsEarlier rounds turn) stamps

-- A turn adds to the history what its core receives in a cycle.
pub record Receives (core cycle : ℕ) (old new : List Item) (before after : ServiceHistory) : Type 0 where
  pub more : List Entry
  pub adds : AddsOwn core more old new
  pub received : after.service.accesses ≡ before.service.accesses ++ stamped cycle more

-- Each slot is that of its core, which has had its turn in so many rounds.
abbrev pub AreAt : {E : Type 0} → (E → EngineView) → ℕ → ℕ → MemoryView → List (CoreSlot E) → Type 0
AreAt {E} view rounds budget m slots = (core : ℕ) (s : CoreSlot E) → slice_get slots core ≡ Some s
    → SlotAt core rounds budget m (view s.engine) s.lane s.end s.cycles

-- The accesses of a history, each in the cycle in which its core received it, are in an order.
pub record AreReceived (in_order : List Stamp → Type 0) (items : List Item) (histories : ℕ → ServiceHistory) : Type 0 where
  pub stamps : List Stamp
  pub are : map (λ (stamp : Stamp). stamp.entry) stamps ≡ entries items
  pub ordered : in_order stamps
  pub received : (core : ℕ) → (histories core).service.accesses ≡ own_stamps stamps core

-- How the engines of slots were served, and in which order, where each answer came as its request was served.
pub record AreServed {E : Type 0} (view : E → EngineView) (times : ServiceHistory → E → Type 0) (in_order : List Stamp → Type 0)
    (m : MemoryView) (slots : List (CoreSlot E)) (histories : ℕ → ServiceHistory) : Type 0 where
  pub each : (core : ℕ) (s : CoreSlot E) → slice_get slots core ≡ Some s
      → IsServedAt view times (side_of m s.lane.core) s.engine s.lane s.end s.cycles (histories core)
  pub at_once : IsAtOnce m → AreReceived in_order m.history histories

-- Where each answer came as its request was served, no core's budget ended while it waited, and the accesses of the history are
-- in an order, each in the cycle in which its core received it.
pub record IsAtOnceRun (cores : ℕ) (in_order : List Stamp → Type 0) (outcome : OutcomeValue) (histories : ℕ → ServiceHistory) : Type 0
  where
    pub received : AreReceived in_order outcome.items histories
    pub waited : NoneWaited cores histories

-- How the cores of a run on a memory were served.
pub record IsServedRun {E : Type 0} (view : E → EngineView) (rows : E → List TimeRow) (times : ServiceHistory → E → Type 0) (m : MemoryView)
    (in_order : List Stamp → Type 0) (outcome : OutcomeValue) (histories : ℕ → ServiceHistory) : Type 0 where
  pub ends : EndsServed view rows times m outcome histories
  pub at_once : IsAtOnce m → IsAtOnceRun m.cores in_order outcome histories
