-- A core on a thread: before its first cycle, where it has ended, and what that is in the memory that is left.
use Rattle.std.proofs.Common.{◌≡◌, ℕ, zero, suc, ◌≤◌, List, [], ◌∷◌, Some, None, refl, ap, sym, ◌∙◌, subst}
use Rattle.std.specs.Prelude.{Option, slice_get, map}
use Rattle.std.proofs.lemmas.Option.{same_Some}
use Rattle.access_log.specs.declared.Item.{Item}
use Rattle.access_log.specs.Items.{entries}
use Rattle.access_log.specs.Replay.{own}
use Rattle.access_log.specs.Stamps.{Stamp}
use Rattle.timetable.specs.declared.CoreEnd.{CoreEnd}
use Rattle.timetable.specs.declared.End.{End}
use Rattle.timetable.specs.declared.rows.TimeRow.{TimeRow}
use Rattle.mem_port.specs.declared.memory.MemoryCore.{Ghosts}
use Rattle.mem_port.specs.Engine.{EngineView}
use Rattle.mem_port.specs.Memory.{Keeps}
use Rattle.mem_port.specs.ServiceHistory.{ServiceHistory}
use Rattle.mem_port.specs.Side.{side_of}
use Rattle.core_run.specs.Lanes.{HasCome, IsFinished, bound_of}
use Rattle.core_run.specs.Running.{IsOn, IsOver, IsUnused, IsServedAt}
use Rattle.core_run.specs.Outcomes.{IsEngineOf, IsEndOf}
use Rattle.core_run.proofs.DoneLaws.{IsDone, finished-done, finished-own, engine-of}
use Rattle.core_run.proofs.StartLaws.{start-on, start-served, first_history, first-history}
use Rattle.turn.specs.declared.pass.Turn.{Turn}
use Rattle.turn.specs.Views.{CountedView, CoreFits}
use Rattle.turn.specs.Rule.{own_core, joined_cores}
use Rattle.turn.specs.Passes.{IsOf, HasMade, first_view, all_cores, side}
use Rattle.turn.specs.Passes as passes
use Rattle.core_threads.specs.declared.work.Worker.{Worker}
use Rattle.core_threads.specs.Runs.{HasRun}
use Rattle.core_threads.specs.Workers.{IsFreshFor, IsReady, HasEnded, HasWorked, IsAlone}
use Rattle.core_threads.proofs.CoreLemmas.{first-unused, finished-rest, finished-there, taken-there}

module _ {E M : Type 0} {g : Ghosts M} (view : E → EngineView) (turn : Turn M g) (budget core : ℕ) (w : Worker E M g) where
  -- A core before its first cycle.
  pub ready-unused : IsFreshFor turn budget → IsReady view turn budget core w
      → IsUnused budget w.slot.lane.core (side turn w.pass)
  ready-unused fresh h =
      subst (λ (k : ℕ). IsUnused budget k (side turn w.pass)) (sym h.slot.lane_is)
      (first-unused (first_view turn) (passes.own w.pass) core budget h.within fresh
      (ap own_core h.pass.cores))

  pub ready-on : 1 ≤ budget → IsFreshFor turn budget → IsReady view turn budget core w
      → IsOn budget (side turn w.pass) (view w.slot.engine) w.slot.lane 0
  ready-on some fresh h =
      start-on (first_view turn).image core (first_view turn).cores budget (side turn w.pass) (view w.slot.engine) w.slot.lane w.slot.end
      w.slot.cycles some (ready-unused fresh h) refl refl h.slot

  -- What its thread does.
  module _ (times : ServiceHistory → E → Type 0) (last : Worker E M g) (after : Turn M g) (same : after ≡ turn) where
    abbrev Served : Type 0
    Served = (history : ServiceHistory)
        → IsServedAt view times (side turn w.pass) w.slot.engine w.slot.lane None 0 history
        → (later : ServiceHistory)
        × IsServedAt view times (side after last.pass) last.slot.engine last.slot.lane last.slot.end last.slot.cycles later

    pub worked : IsFreshFor turn budget → IsReady view turn budget core w → IsOf after last.pass → w.slot.lane.core ≡ last.pass.core
        → last.slot.lane.core ≡ w.slot.lane.core → joined_cores (all_cores last.pass) ≡ joined_cores (all_cores w.pass)
        → ((end : End) × ((last.slot.end ≡ Some end)
        × IsOver budget (side after last.pass) (view last.slot.engine) last.slot.lane end last.slot.cycles))
        → HasRun (HasMade turn) w.slot.lane.core last.slot.cycles w.pass last.pass → Served
        → HasWorked view times turn budget core w last
    worked fresh ready is_of core_is lane_is joined over made served = record {
      ended = record {
        turn_is = subst (λ (it : Turn M g). IsOf it last.pass) same is_of;
        core_is = sym core_is ∙ ready.slot.lane_is;
        lane_is = lane_is ∙ ready.slot.lane_is;
        lone = joined ∙ ap joined_cores ready.pass.cores;
        end = over.0;
        ends = over.1.0;
        over = subst (λ (it : Turn M g). IsOver budget (side it last.pass) (view last.slot.engine) last.slot.lane over.0 last.slot.cycles)
            same over.1.1;
      };
      made = subst (λ (k : ℕ). HasRun (HasMade turn) k last.slot.cycles w.pass last.pass) ready.slot.lane_is made;
      served = λ tells.
          (let first = first_history (side turn w.pass) in
          let start = start-served (first_view turn).image core (first_view turn).cores budget (side turn w.pass) view times w.slot.engine
          w.slot.lane w.slot.end w.slot.cycles (ready-unused fresh ready) ready.slot
          (tells first (first-history (side turn w.pass))) in
          let later = served first (subst (λ (end : Option End). IsServedAt view times (side turn w.pass) w.slot.engine w.slot.lane end 0
          first) ready.slot.no_end (subst (λ (n : ℕ). IsServedAt view times (side turn w.pass) w.slot.engine w.slot.lane w.slot.end n first)
          ready.slot.no_cycle start)) in (
            later.0,
            subst (λ (it : Turn M g). IsServedAt view times (side it last.pass) last.slot.engine last.slot.lane last.slot.end
                last.slot.cycles later.0) same later.1,
          ));
    }

  -- A core that has ended.
  module _ (h : HasEnded view turn budget core w) where
    ended-finished : IsFinished (view w.slot.engine) (side turn w.pass) core
    ended-finished = subst (λ (k : ℕ). IsFinished (view w.slot.engine) (side turn w.pass) k) h.lane_is h.over.finished

    pub ended-alone : IsAlone turn w
    ended-alone = record {
      turn_is = h.turn_is;
      lone = h.lone;
      rest = finished-rest (first_view turn) (passes.own w.pass) core (view w.slot.engine) ended-finished;
      ended = (h.end, h.ends);
    }

    pub ended-core : (passes.own w.pass).core ≡ core
    ended-core = w.pass.named ∙ h.core_is

    module _ (y : CountedView) (kept : Keeps (first_view turn) y.memory) (fits : CoreFits y (passes.own w.pass)) (rows : List TimeRow)
        (ended : CoreEnd) (told : IsEndOf (view w.slot.engine) rows w.slot.end w.slot.cycles ended) where
      there : IsFinished (view w.slot.engine) (side_of y.memory core) core
      there = finished-there (first_view turn) y (passes.own w.pass) core kept fits ended-core (view w.slot.engine) ended-finished

      -- What it did is what the memory that is left has of it.
      pub ended-done : IsDone budget y.memory core ended
      ended-done =
          let same : h.end ≡ ended.end = same_Some h.end ended.end (sym h.ends ∙ told.ends) in
          let taken = taken-there (first_view turn) y (passes.own w.pass) core kept fits ended-core in
          let runs = subst (λ es. HasCome (view w.slot.engine) es) taken h.over.runs in
          finished-done budget y.memory core (view w.slot.engine) ended there runs told.retired told.state
          (rw (same, sym told.took) at h.over.fits)

      -- How its engine was served, by the history that is left.
      pub ended-served : (times : ServiceHistory → E → Type 0) (items : List Item) (history : ServiceHistory)
          → entries items ≡ entries y.memory.history
          → IsServedAt view times (side turn w.pass) w.slot.engine w.slot.lane w.slot.end w.slot.cycles history
          → IsEngineOf (first_view turn).image core (first_view turn).cores (bound_of (side_of (first_view turn) core)) ended history
          (view w.slot.engine)
          × ((ended.rows.rows ≡ rows) × (times history w.slot.engine
          × (map (λ (stamp : Stamp). stamp.entry) history.service.accesses ≡ own (entries items) core)))
      ended-served times items history same served = (
        engine-of view times (first_view turn).image core (first_view turn).cores (side turn w.pass) w.slot.engine rows w.slot.lane
            w.slot.end w.slot.cycles ended history refl refl h.lane_is h.over.finished served told,
        (
          told.rows_are,
          (
            served.tells,
            served.accesses ∙ (taken-there (first_view turn) y (passes.own w.pass) core kept fits ended-core
                ∙ finished-own y.memory core (view w.slot.engine) items there same),
          ),
        ),
      )

-- A history for each place of a list.

abbrev at-place : ServiceHistory → (ℕ → ServiceHistory) → ℕ → ServiceHistory
at-place history others zero = history
at-place history others (suc n) = others n

at-places : {X : Type 0} (P : ℕ → X → ServiceHistory → Type 0) (x : X) (xs : List X) (history : ServiceHistory)
    (others : ℕ → ServiceHistory) → P 0 x history
    → ((n : ℕ) (y : X) → slice_get xs n ≡ Some y → P (suc n) y (others n))
    → (n : ℕ) (y : X) → slice_get (x ∷ xs) n ≡ Some y → P n y (at-place history others n)
at-places {X} P x xs history others first each zero y got = subst (λ (z : X). P 0 z history) (same_Some x y got) first
at-places P x xs history others first each (suc n) y got = each n y got

pub chosen : {X : Type 0} (P : ℕ → X → ServiceHistory → Type 0) (none : ServiceHistory) (xs : List X)
    → ((n : ℕ) (x : X) → slice_get xs n ≡ Some x → (history : ServiceHistory) × P n x history)
    → (histories : ℕ → ServiceHistory) × ((n : ℕ) (x : X) → slice_get xs n ≡ Some x → P n x (histories n))
chosen P none [] each = ((λ n. none), λ n x got. cc)
chosen P none (x ∷ xs) each =
    let first = each 0 x refl in
    let others = chosen (λ n. P (suc n)) none xs (λ n y got. each (suc n) y got) in
    (at-place first.0 others.0, at-places P x xs first.0 others.0 first.1 others.1)
