-- The ends of cores that took turns: what their slots tell, and how their engines were served.
use Rattle.std.proofs.Common.{◌≡◌, ℕ, Some, None, List, length, refl, sym, ◌∙◌, subst, arith}
use Rattle.std.specs.Prelude.{Option, slice_get, map}
use Rattle.std.proofs.lemmas.Option.{same_Some}
use Rattle.std_laws.proofs.ListLaws.{slice_get_some}
use Rattle.access_log.specs.declared.Item.{Item}
use Rattle.access_log.specs.Items.{entries}
use Rattle.access_log.specs.Stamps.{Stamp}
use Rattle.timetable.specs.declared.CoreEnd.{CoreEnd}
use Rattle.timetable.specs.declared.End.{End}
use Rattle.timetable.specs.declared.rows.TimeRow.{TimeRow}
use Rattle.mem_port.specs.Memory.{MemoryView, Keeps, committed}
use Rattle.mem_port.specs.Engine.{EngineView}
use Rattle.mem_port.specs.ServiceHistory.{ServiceHistory}
use Rattle.mem_port.specs.Side.{side_of}
use Rattle.core_run.specs.declared.lane.Lane.{Lane}
use Rattle.core_run.specs.declared.serial.CoreSlot.{CoreSlot}
use Rattle.core_run.specs.Lanes.{HasCome, IsFinished}
use Rattle.core_run.specs.Running.{IsOver}
use Rattle.core_run.specs.Outcomes.{IsEndOf}
use Rattle.core_run.specs.Serial.{IsSlotOf, SlotAt, AreServed, IsServedRun}
use Rattle.core_run.proofs.DoneLaws.{IsDone, finished-done, finished-own, engine-of}
use Rattle.core_run.proofs.RunningLaws.{is-on}
use Rattle.core_run.proofs.TurnLemmas.{once-along}

-- The slot of a core that has ended.
pub record IsEndedSlot (core budget : ℕ) (m : MemoryView) (e : EngineView) (lane : Lane) (end : Option End) (cycles : ℕ) : Type 0 where
  pub lane_is : lane.core ≡ core
  pub it : End
  pub ended : end ≡ Some it
  pub over : IsOver budget (side_of m lane.core) e lane it cycles

-- By its end.
pub slot-ended : (core budget : ℕ) (m : MemoryView) (e : EngineView) (lane : Lane) (end : Option End) (cycles : ℕ)
    → IsSlotOf core budget m e lane end cycles → (end ≡ None → ⊥) → IsEndedSlot core budget m e lane end cycles
slot-ended core budget m e lane None cycles h some = absurd (some refl)
slot-ended core budget m e lane (Some it) cycles h some = record { lane_is = h.lane_is; it = it; ended = refl; over = h.holds }

-- A core that has had its turn in each round of the budget has ended.
pub slot-over : {core budget : ℕ} {m : MemoryView} {e : EngineView} {lane : Lane} {end : Option End} {cycles : ℕ}
    → SlotAt core budget budget m e lane end cycles → IsEndedSlot core budget m e lane end cycles
slot-over {core} {budget} {m} {e} {lane} {end} {cycles} h = slot-ended core budget m e lane end cycles h.slot
    (λ none. let more = (is-on end none h.slot.holds).more in let all = h.count none in omega (arith, more, all))

slot-done : (budget : ℕ) (m : MemoryView) (core : ℕ) (e : EngineView) (rows : List TimeRow) (lane : Lane) (end : Option End)
    (cycles : ℕ) (ended : CoreEnd)
    → IsEndedSlot core budget m e lane end cycles → IsEndOf e rows end cycles ended → IsDone budget m core ended
slot-done budget m core e rows lane end cycles ended at told =
    let same : at.it ≡ ended.end = same_Some at.it ended.end (sym at.ended ∙ told.ends) in
    let finished = subst (λ (k : ℕ). IsFinished e (side_of m k) k) at.lane_is at.over.finished in
    let runs = subst (λ (k : ℕ). HasCome e (committed m k)) at.lane_is at.over.runs in
    finished-done budget m core e ended finished runs told.retired told.state (rw (same, sym told.took) at at.over.fits)

-- What the ends of slots are.
module _ {E : Type 0} (view : E → EngineView) (rows : E → List TimeRow) where
  abbrev pub AreEnds : List (CoreSlot E) → List CoreEnd → Type 0
  AreEnds slots ends =
      (core : ℕ) (ended : CoreEnd) → slice_get ends core ≡ Some ended
      → (s : CoreSlot E) × ((slice_get slots core ≡ Some s) × IsEndOf (view s.engine) (rows s.engine) s.end s.cycles ended)

  abbrev pub AreEnded : ℕ → MemoryView → List (CoreSlot E) → Type 0
  AreEnded budget m slots = (core : ℕ) (s : CoreSlot E) → slice_get slots core ≡ Some s
      → IsEndedSlot core budget m (view s.engine) s.lane s.end s.cycles

  pub ends-done : (budget : ℕ) (m : MemoryView) (slots : List (CoreSlot E)) (ends : List CoreEnd)
      → AreEnded budget m slots → AreEnds slots ends
      → (core : ℕ) (ended : CoreEnd) → slice_get ends core ≡ Some ended → IsDone budget m core ended
  ends-done budget m slots ends at told core ended got =
      let s = told core ended got in
      slot-done budget m core (view s.0.engine) (rows s.0.engine) s.0.lane s.0.end s.0.cycles ended (at core s.0 s.1.0) s.1.1

  -- How the engines were served until their cores ended.
  pub ends-served : (times : ServiceHistory → E → Type 0) (in_order : List Stamp → Type 0) (old new : MemoryView) (budget : ℕ)
      (words : List ℕ) (items : List Item) (slots : List (CoreSlot E)) (ends : List CoreEnd) (histories : ℕ → ServiceHistory)
      → Keeps old new → length ends ≡ old.cores → entries items ≡ entries new.history → AreEnded budget new slots
      → AreEnds slots ends
      → AreServed view times in_order new slots histories
      → IsServedRun view rows times old in_order (record { cores = ends; words = words; items = items }) histories
  ends-served times in_order old new budget words items slots ends histories kept count same at told served = record {
    ends = λ core ended got.
        (let s = told core ended got in
        let here = at core s.0 s.1.0 in
        let h = served.each core s.0 s.1.0 in
        let finished = subst (λ (k : ℕ). IsFinished (view s.0.engine) (side_of new k) k) here.lane_is here.over.finished in
        let takes = subst (λ (k : ℕ). map (λ (stamp : Stamp). stamp.entry) (histories core).service.accesses ≡ committed new k) here.lane_is
        h.accesses in (
          s.0.engine,
          (
            rw (kept.tells_distances, kept.bound) at (engine-of view times old.image core old.cores (side_of new s.0.lane.core) s.0.engine
                (rows s.0.engine) s.0.lane s.0.end s.0.cycles ended (histories core) kept.image kept.cores here.lane_is
                here.over.finished h s.1.1),
            (s.1.1.rows_are, (h.tells, takes ∙ finished-own new core (view s.0.engine) items finished same)),
          ),
        ));
    at_once = λ once.
        (let now = once-along kept.tells_distances kept.bound once in
        let received = served.at_once now in
        record {
          received = record {
            stamps = received.stamps;
            are = received.are ∙ sym same;
            ordered = received.ordered;
            received = received.received;
          };
          waited = λ core within.
              (let last = slice_get_some ends core (rw count within) in
              let s = told core last.0 last.1 in
              (let h = served.each core s.0 s.1.0 in (h.at_once (h.bound ∙ rw (now.told, now.bound) refl)).1));
        });
  }
