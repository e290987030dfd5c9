-- A round: the cores below an index have had their turn, those from it on have not.
use Rattle.std.proofs.Common.{◌≡◌, ◌≢◌, ℕ, ◌+◌, ◌<◌, ◌≤◌, inl, inr, Some, List, length, refl, sym, ◌∙◌, subst, arith}
use Rattle.std.specs.Prelude.{nat_lt, if◌then◌else◌, Option, slice_get, slice_set}
use Rattle.std.proofs.lemmas.Bool.{cases_lt, lt-ltb, le-ltb}
use Rattle.std.proofs.lemmas.Option.{slice_get_within}
use Rattle.std_laws.proofs.ListLaws.{AtEach-set}
use Rattle.timetable.specs.declared.End.{End}
use Rattle.mem_port.specs.Memory.{MemoryView}
use Rattle.mem_port.specs.Engine.{EngineView}
use Rattle.mem_port.specs.Side.{LeavesOthers}
use Rattle.core_run.specs.declared.lane.Lane.{Lane}
use Rattle.core_run.specs.declared.serial.CoreSlot.{CoreSlot}
use Rattle.core_run.specs.Serial.{SlotAt, AreInRounds}
use Rattle.core_run.proofs.SerialLemmas.{slot-kept}
use Rattle.core_run.proofs.StampLemmas.{after-turn}
use Rattle.core_run.proofs.ServedLemmas.{Adds}

-- How many turns a core has had, where a round has come to an index.
abbrev pub turns : ℕ → ℕ → ℕ → ℕ
turns rounds index core = if nat_lt core index then rounds + 1 else rounds

turns-had : (rounds index core : ℕ) → core < index → turns rounds index core ≡ rounds + 1
turns-had rounds index core lt = rw (lt-ltb core index lt) refl

turns-waits : (rounds index core : ℕ) → index ≤ core → turns rounds index core ≡ rounds
turns-waits rounds index core le = rw (le-ltb core index le) refl

turns-other : (rounds index core : ℕ) → core ≢ index → turns rounds (index + 1) core ≡ turns rounds index core
turns-other rounds index core ne =
    elim (cases_lt core index) as (λ _. turns rounds (index + 1) core ≡ turns rounds index core) [
      | inl lt ↦ turns-had rounds (index + 1) core (omega arith) ∙ sym (turns-had rounds index core lt)
      | inr le ↦ turns-waits rounds (index + 1) core (omega (arith, ne)) ∙ sym (turns-waits rounds index core le)
    ]

-- What holds of a slot holds of it as that of its lane's core.
pub at-own : {core rounds budget cycles : ℕ} {m : MemoryView} {e : EngineView} {lane : Lane} {end : Option End}
    → SlotAt core rounds budget m e lane end cycles
    → SlotAt lane.core rounds budget m e lane end cycles
at-own h = record { slot = record { lane_is = refl; holds = h.slot.holds }; count = h.count }

-- A core's turn is behind those of the round.
pub adds-turn : (rounds turn : ℕ) → Adds (AreInRounds rounds turn) (AreInRounds rounds (turn + 1)) turn (rounds + 1)
adds-turn rounds turn stamps more one own h = after-turn rounds turn stamps more one own h

module _ {E : Type 0} (view : E → EngineView) where
  -- What holds of all slots, where each core has had so many turns.
  abbrev pub AreInSlots : (ℕ → ℕ) → ℕ → MemoryView → List (CoreSlot E) → Type 0
  AreInSlots had budget m slots = (core : ℕ) (s : CoreSlot E) → slice_get slots core ≡ Some s
      → SlotAt core (had core) budget m (view s.engine) s.lane s.end s.cycles

  -- The slot whose turn it is.
  pub slot-now : (rounds budget : ℕ) (m : MemoryView) (slots : List (CoreSlot E)) (index : ℕ) (s : CoreSlot E)
      → slice_get slots index ≡ Some s
      → AreInSlots (turns rounds index) budget m slots → SlotAt index rounds budget m (view s.engine) s.lane s.end s.cycles
  slot-now rounds budget m slots index s got all =
      subst (λ (n : ℕ). SlotAt index n budget m (view s.engine) s.lane s.end s.cycles) (turns-waits rounds index index (omega arith))
      (all index s got)

  pub slots-turn : (rounds budget : ℕ) (old new : MemoryView) (slots : List (CoreSlot E)) (index turn : ℕ) (s : CoreSlot E)
      → index < length slots → turn ≡ index
      → LeavesOthers turn old new → SlotAt turn (rounds + 1) budget new (view s.engine) s.lane s.end s.cycles
      → AreInSlots (turns rounds index) budget old slots → AreInSlots (turns rounds (index + 1)) budget new (slice_set slots index s)
  slots-turn rounds budget old new slots index turn s inside is left here all =
      AtEach-set (λ core s. SlotAt core (turns rounds index core) budget old (view s.engine) s.lane s.end s.cycles)
      (λ core s. SlotAt core (turns rounds (index + 1) core) budget new (view s.engine) s.lane s.end s.cycles) slots index s inside
      (rw (turns-had rounds (index + 1) index (omega arith))
      (subst (λ (core : ℕ). SlotAt core (rounds + 1) budget new (view s.engine) s.lane s.end s.cycles) is here))
      (λ core s ne at. rw (turns-other rounds index core ne)
      (record {
        slot = slot-kept turn old new left core budget (view s.engine) s.lane s.end s.cycles (λ e. ne (e ∙ is)) at.slot;
        count = at.count;
      })) all

  pub slots-start : (rounds budget : ℕ) (m : MemoryView) (slots : List (CoreSlot E)) → AreInSlots (λ core. rounds) budget m slots
      → AreInSlots (turns rounds 0) budget m slots
  slots-start rounds budget m slots all core s got = rw (turns-waits rounds 0 core (omega arith)) (all core s got)

  pub slots-round : (rounds budget : ℕ) (m : MemoryView) (slots : List (CoreSlot E)) (index : ℕ) → length slots ≤ index
      → AreInSlots (turns rounds index) budget m slots
      → AreInSlots (λ core. rounds + 1) budget m slots
  slots-round rounds budget m slots index done all core s got =
      let within = slice_get_within slots core s got in
      subst (λ (n : ℕ). SlotAt core n budget m (view s.engine) s.lane s.end s.cycles) (turns-had rounds index core (omega arith))
      (all core s got)
