-- Cores whose turns a seed draws.
use Rattle.std.specs.Prelude.{◌≡◌, ℕ, ◌+◌, ◌*◌, ◌<◌, ◌==◌, Bool, false, is_some, is_none, Option, Some, None, List, [], length, take}
use Rattle.std.specs.Prelude.{filter, flat_map, slice_get, slice_set, slice_index}
use Rattle.std.specs.List.{range_with_len}
use Rattle.timetable.specs.declared.End.{End}
use Rattle.right_run.specs.Seeded.{word_of, turns_of, AreDrawn, AreAll, HaveTurns}
use Rattle.mem_port.specs.Calls.{Call, Lead}
use Rattle.mem_port.specs.Memory.{MemoryView, IsAtOnce}
use Rattle.mem_port.specs.Engine.{EngineView}
use Rattle.mem_port.specs.ServiceHistory.{ServiceHistory}
use Rattle.mem_port.specs.Side.{LeavesOthers, side_of}
use Rattle.core_run.specs.declared.serial.CoreSlot.{CoreSlot}
use Rattle.core_run.specs.Running.{AreOfCycle, IsServedAt}
use Rattle.core_run.specs.Serial.{IsSlotOf, Receives, AreServed}

-- Whether a slot is there, of a core that runs on.
abbrev pub runs_on : {E : Type 0} → Option (CoreSlot E) → Bool
runs_on None = false
runs_on (Some s) = is_none s.end

-- The cores that run on, in rising order.
abbrev pub running : {E : Type 0} → List (CoreSlot E) → List ℕ
running slots = filter (λ core. runs_on (slice_get slots core)) (range_with_len 0 (length slots))

-- Each slot is that of its core.
abbrev pub AreSlots : {E : Type 0} → (E → EngineView) → ℕ → MemoryView → List (CoreSlot E) → Type 0
AreSlots {E} view budget m slots = (core : ℕ) (s : CoreSlot E) → slice_get slots core ≡ Some s
    → IsSlotOf core budget m (view s.engine) s.lane s.end s.cycles

-- The turn of a core that runs on: its next cycle, with a choice.
pub record HasPlayed {E M : Type 0} (view : E → EngineView) (times : ServiceHistory → E → Type 0) (sees : M → MemoryView)
    (makes : Call → M → M → Type 0) (budget core choice : ℕ) (old new : M) (before after : List (CoreSlot E)) : Type 0 where
  pub was : CoreSlot E
  pub is : CoreSlot E
  pub at : slice_get before core ≡ Some was
  pub no_end : was.end ≡ None
  pub slots : after ≡ slice_set before core is
  pub slot : IsSlotOf core budget (sees new) (view is.engine) is.lane is.end is.cycles
  pub cycles : is.cycles ≡ was.cycles + 1
  pub others : LeavesOthers core (sees old) (sees new)
  pub calls : List Call
  pub made : AreOfCycle core choice (is_some is.end) calls
  pub lead : Lead makes calls old new
  pub served : (history : ServiceHistory)
      → IsServedAt view times (side_of (sees old) was.lane.core) was.engine was.lane was.end was.cycles history
      → (later : ServiceHistory) × (IsServedAt view times (side_of (sees new) is.lane.core) is.engine is.lane is.end is.cycles later
      × (IsAtOnce (sees old) → Receives core is.cycles (sees old).history (sees new).history history later))

-- How many cycles a core may have in all, which has had so many: these, if it has ended, and more, if it runs on.
abbrev pub IsTotal : Option End → ℕ → ℕ → Type 0
IsTotal None had total = had < total
IsTotal (Some end) had total = total ≡ had

-- So for each core.
pub record AreTotals {E : Type 0} (slots : List (CoreSlot E)) (totals : List ℕ) : Type 0 where
  pub count : length totals ≡ length slots
  pub each : (core : ℕ) (s : CoreSlot E) → slice_get slots core ≡ Some s → IsTotal s.end s.cycles (slice_index totals core)

-- Turns with their calls, where each core has so many cycles in all: each turn has those of a cycle of its core, with the second of
-- its two words as the choice, and those of the core's end, where this cycle is its last one.
pub record AreTurns (seed : ℕ) (cycles turns : List ℕ) (calls : List (List Call)) : Type 0 where
  pub drawn : AreDrawn seed cycles turns
  pub count : length calls ≡ length turns
  pub made : (turn core : ℕ) (those : List Call) → slice_get turns turn ≡ Some core → slice_get calls turn ≡ Some those
      → AreOfCycle core (word_of seed (2 * turn + 1)) (turns_of core (take turn turns) + 1 == slice_index cycles core) those

-- All turns of cores with so many cycles each lead from one memory to another.
pub record LeadsSeeded {M : Type 0} (makes : Call → M → M → Type 0) (seed : ℕ) (cycles : List ℕ) (old new : M) : Type 0 where
  pub turns : List ℕ
  pub calls : List (List Call)
  pub are : AreTurns seed cycles turns calls
  pub all : AreAll cycles turns
  pub lead : Lead makes (flat_map (λ those. those) calls) old new

-- Where cores stand behind turns that a seed drew, and how they came there.
pub record HaveHad {E M : Type 0} (view : E → EngineView) (times : ServiceHistory → E → Type 0) (sees : M → MemoryView)
    (makes : Call → M → M → Type 0) (budget seed : ℕ) (turns : List ℕ) (old new : M) (before after : List (CoreSlot E)) : Type 0 where
  pub slots : AreSlots view budget (sees new) after
  pub cycles : (core : ℕ) (s : CoreSlot E) → slice_get after core ≡ Some s → s.cycles ≡ turns_of core turns
  pub calls : List (List Call)
  pub lead : Lead makes (flat_map (λ those. those) calls) old new
  pub are : (totals : List ℕ) → AreTotals after totals → AreTurns seed totals turns calls
  pub served : (histories : ℕ → ServiceHistory) → AreServed view times (HaveTurns 0 []) (sees old) before histories
      → (later : ℕ → ServiceHistory) × AreServed view times (HaveTurns 0 turns) (sees new) after later
