-- How the engines of slots were served: at the start, behind the turn of one core, and in which order.
use Rattle.std.proofs.Common.{◌≡◌, ◌≢◌, ℕ, ◌<◌, ◌≤◌, inl, inr, Some, List, [], ◌++◌, length, refl, sym, ◌∙◌, subst, arith}
use Rattle.std.specs.Prelude.{if◌then◌else◌, ◌==◌, slice_get, slice_set}
use Rattle.std.specs.List.{AllByRecursion}
use Rattle.std.proofs.lemmas.Bool.{cases_eq, eq-eqb, ne_eqb}
use Rattle.std.proofs.lemmas.List.{map-append}
use Rattle.std.proofs.lemmas.Option.{slice_get_within}
use Rattle.std_laws.proofs.ListLaws.{AtEach-set}
use Rattle.access_log.specs.declared.Entry.{Entry}
use Rattle.access_log.specs.declared.Item.{Item}
use Rattle.access_log.specs.Stamps.{Stamp, stamped, own_stamps}
use Rattle.mem_port.specs.Memory.{MemoryView, IsFresh, IsAtOnce}
use Rattle.mem_port.specs.Engine.{EngineView}
use Rattle.mem_port.specs.ServiceHistory.{ServiceHistory, IsFirstHistory}
use Rattle.mem_port.specs.Side.{LeavesOthers, side_of}
use Rattle.core_run.specs.declared.serial.CoreSlot.{CoreSlot}
use Rattle.core_run.specs.Running.{IsServedAt}
use Rattle.core_run.specs.Outcomes.{AreFirst}
use Rattle.core_run.specs.Serial.{Receives, AreReceived, AreServed}
use Rattle.core_run.proofs.SerialLemmas.{served-kept}
use Rattle.core_run.proofs.StartLaws.{fresh-unused, first_history, first-history, start-served}
use Rattle.core_run.proofs.StampLemmas.{entries-stamped, own-turn, own-other}
use Rattle.core_run.proofs.TurnLemmas.{once-along}

-- A history for a core, instead of the one that it had.
abbrev pub with_history : (ℕ → ServiceHistory) → ℕ → ServiceHistory → ℕ → ServiceHistory
with_history histories index history core = if core == index then history else histories core

history-here : (histories : ℕ → ServiceHistory) (index : ℕ) (history : ServiceHistory)
    → with_history histories index history index ≡ history
history-here histories index history = rw (eq-eqb index index refl) refl

history-other : (histories : ℕ → ServiceHistory) (index core : ℕ) (history : ServiceHistory) → core ≢ index
    → with_history histories index history core ≡ histories core
history-other histories index core history ne = rw (ne_eqb core index ne) refl

-- Accesses in an order are in another one behind what a core receives in a cycle.
abbrev pub Adds : (List Stamp → Type 0) → (List Stamp → Type 0) → ℕ → ℕ → Type 0
Adds before after core cycle = (stamps : List Stamp) (more : List Entry) → length more ≤ 1
    → AllByRecursion (λ (e : Entry). e.core ≡ core) more → before stamps → after (stamps ++ stamped cycle more)

module _ (before after : List Stamp → Type 0) (core cycle : ℕ) (adds : Adds before after core cycle) where
  -- What a turn adds to what was received.
  received-turn : (old new : List Item) (histories : ℕ → ServiceHistory) (q : ServiceHistory)
      → Receives core cycle old new (histories core) q → AreReceived before old histories
      → AreReceived after new (with_history histories core q)
  received-turn old new histories q h received =
      let stamps = received.stamps in
      let behind = stamps ++ stamped cycle h.more in
      record {
        stamps = behind;
        are = map-append _ stamps (stamped cycle h.more) ∙ rw (received.are, entries-stamped cycle h.more) (sym h.adds.added);
        ordered = adds stamps h.more h.adds.one h.adds.own received.ordered;
        received = λ any.
            elim (cases_eq any core) as (λ _. (with_history histories core q any).service.accesses ≡ own_stamps behind any) [
              | inl is ↦
                  (let A : ℕ → Type 0 = λ n. (with_history histories core q n).service.accesses ≡ own_stamps behind n in
                  subst A (sym is) (rw (
                    history-here histories core q,
                    own-turn cycle core stamps h.more h.adds.own,
                    sym (received.received core),
                  ) h.received))
              | inr ne ↦ rw (history-other histories core any q ne, own-other cycle core any stamps h.more ne h.adds.own)
                  (received.received any)
            ];
      }

  -- A turn, and how all engines were served behind it.
  pub served-turn : {E : Type 0} (view : E → EngineView) (times : ServiceHistory → E → Type 0) (old new : MemoryView)
      (slots : List (CoreSlot E)) (turn : ℕ) (s : CoreSlot E) (histories : ℕ → ServiceHistory) → core < length slots → turn ≡ core
      → LeavesOthers turn old new
      → ((any : ℕ) (s : CoreSlot E) → slice_get slots any ≡ Some s → s.lane.core ≡ any)
      → AreServed view times before old slots histories
      → ((q : ServiceHistory) × (IsServedAt view times (side_of new s.lane.core) s.engine s.lane s.end s.cycles q
      × (IsAtOnce old → Receives turn cycle old.history new.history (histories core) q)))
      → (later : ℕ → ServiceHistory) × AreServed view times after new (slice_set slots core s) later
  served-turn view times old new slots turn s histories inside is left lanes served h =
      let q = h.0 in (
        with_history histories core q,
        record {
          each = AtEach-set (λ any s. (s.lane.core ≡ any)
              × IsServedAt view times (side_of old s.lane.core) s.engine s.lane s.end s.cycles (histories any))
              (λ any s. IsServedAt view times (side_of new s.lane.core) s.engine s.lane s.end s.cycles
              (with_history histories core q any)) slots core s inside
              (rw (history-here histories core q) h.1.0)
              (λ any s ne k. rw (history-other histories core any q ne)
              (served-kept turn old new left view times s.engine s.lane s.end s.cycles (histories any) (λ e. ne (sym k.0 ∙ (e ∙ is))) k.1))
              (λ any s got. (lanes any s got, served.each any s got));
          at_once = λ once.
              (let was = once-along (sym left.kept.tells_distances) (sym left.kept.bound) once in
              let receives = subst (λ (n : ℕ). Receives n cycle old.history new.history (histories core) q) is (h.1.1 was) in
              received-turn old.history new.history histories q receives (served.at_once was));
        },
      )

module _ {E : Type 0} (view : E → EngineView) (times : ServiceHistory → E → Type 0) where
  -- At the start nothing was accessed.
  pub served-first : (in_order : List Stamp → Type 0) (m : MemoryView) (budget : ℕ) (slots : List (CoreSlot E)) → in_order []
      → length slots ≡ m.cores → IsFresh m.image m.cores budget m.caches m → AreFirst view m.image m.cores budget slots
      → ((core : ℕ) (s : CoreSlot E) → slice_get slots core ≡ Some s → (history : ServiceHistory) → IsFirstHistory history
      → times history s.engine) → AreServed view times in_order m slots (λ core. first_history (side_of m core))
  served-first in_order m budget slots none count fresh starts tells = record {
    each = λ core s got.
        (let start = starts core s got in
        let within = slice_get_within slots core s got in
        let side = side_of m s.lane.core in
        start-served m.image core m.cores budget side view times s.engine s.lane s.end s.cycles
        (fresh-unused m s.lane.core budget (omega (arith, start.lane_is, within, count)) fresh) start
        (tells core s got (first_history side) (first-history side)));
    at_once = λ once. record { stamps = []; are = rw fresh.history refl; ordered = none; received = λ core. refl };
  }

  -- What is in an order is in another one.
  pub served-ordered : (before after : List Stamp → Type 0) (m : MemoryView) (slots : List (CoreSlot E)) (histories : ℕ → ServiceHistory)
      → ((stamps : List Stamp) → before stamps → after stamps)
      → AreServed view times before m slots histories → AreServed view times after m slots histories
  served-ordered before after m slots histories ordered h = record {
    each = h.each;
    at_once = λ once.
        (let r = h.at_once once in
        record { stamps = r.stamps; are = r.are; ordered = ordered r.stamps r.ordered; received = r.received });
  }
