-- What a run of cores on threads leaves.
use Rattle.std.proofs.Common.{◌≡◌, ℕ, ◌<◌, List, [], ◌∷◌, length, Some, refl, ap, sym, ◌∙◌, subst, arith}
use Rattle.std.specs.Prelude.{slice_get, map}
use Rattle.std.proofs.lemmas.List.{length-map}
use Rattle.std.proofs.lemmas.Option.{slice_get-map}
use Rattle.std_laws.proofs.ListLaws.{slice_get_some, AllByRecursion-slice_get}
use Rattle.access_log.specs.declared.Item.{Item}
use Rattle.access_log.specs.Items.{entries}
use Rattle.timetable.specs.declared.CoreEnd.{CoreEnd}
use Rattle.timetable.specs.declared.rows.TimeRow.{TimeRow}
use Rattle.mem_port.specs.declared.memory.MemoryCore.{Ghosts}
use Rattle.mem_port.specs.Engine.{EngineView}
use Rattle.mem_port.specs.Memory.{Keeps, IsAtOnce}
use Rattle.mem_port.specs.ServiceHistory.{ServiceHistory, IsFirstHistory}
use Rattle.mem_port.specs.Side.{side_of}
use Rattle.core_run.specs.Running.{IsServedAt}
use Rattle.core_run.specs.Outcomes.{IsEndOf, EndsServed, NoneWaited}
use Rattle.core_run.specs.declared.serial.CoreSlot.{CoreSlot}
use Rattle.core_run.proofs.DoneLaws.{IsDone}
use Rattle.core_run.proofs.StartLaws.{first_history}
use Rattle.turn.specs.declared.pass.Turn.{Turn}
use Rattle.turn.specs.declared.pass.Pass.{Pass}
use Rattle.turn.specs.declared.views.CoreView.{CoreView}
use Rattle.turn.specs.Views.{CountedView, CoreFits, CoresFit, open_of}
use Rattle.turn.specs.Rule.{own_core, times}
use Rattle.turn.specs.Passes.{SpeaksForAll, first_view, all_cores, own, side}
use Rattle.core_threads.specs.declared.work.Worker.{Worker}
use Rattle.core_threads.specs.Workers.{HasEnded, HasWorked}
use Rattle.core_threads.proofs.JoinLemmas.{seen-times}
use Rattle.core_threads.proofs.RunLemmas.{ended-alone, ended-core, ended-done, ended-served, chosen}

module _ {E M : Type 0} {g : Ghosts M} where
  -- The slot and the pass of a worker.
  pub slot-at : (slots : List (CoreSlot E)) (core : ℕ) (starts : List (Worker E M g)) (w : Worker E M g) → map (λ w. w.slot) starts ≡ slots
      → slice_get starts core ≡ Some w → slice_get slots core ≡ Some w.slot
  slot-at slots core starts w are got =
      ap (λ (xs : List (CoreSlot E)). slice_get xs core) (sym are) ∙ (slice_get-map (λ w. w.slot) starts core ∙ rw got refl)

  pub as-many : (slots : List (CoreSlot E)) (starts : List (Worker E M g)) → map (λ w. w.slot) starts ≡ slots → length starts ≡ length slots
  as-many slots starts are = sym (length-map starts (λ w. w.slot)) ∙ ap length are

  pub pass-at : (passes : List (Pass M g)) (core : ℕ) (starts : List (Worker E M g)) (w : Worker E M g) → map (λ w. w.pass) starts ≡ passes
      → slice_get starts core ≡ Some w → slice_get passes core ≡ Some w.pass
  pass-at passes core starts w are got =
      ap (λ (xs : List (Pass M g)). slice_get xs core) (sym are) ∙ (slice_get-map (λ w. w.pass) starts core ∙ rw got refl)

module _ {E M : Type 0} {g : Ghosts M} (view : E → EngineView) (rows : E → List TimeRow) (tells : ServiceHistory → E → Type 0)
    (turn : Turn M g) (budget : ℕ) (workers : List (Worker E M g)) where
  seen-at : (core : ℕ) (w : Worker E M g) → slice_get workers core ≡ Some w
      → slice_get (map (λ w. own w.pass) workers) core ≡ Some (own w.pass)
  seen-at core w got = slice_get-map (λ w. own w.pass) workers core ∙ rw got refl

  rests-first : (ws : List (Worker E M g)) → ((w : Worker E M g) → slice_get ws 0 ≡ Some w → open_of (own w.pass) ≡ 0) → 0 < length ws
      → open_of (own_core (map (λ w. own w.pass) ws)) ≡ 0
  rests-first [] each some = absurd (omega (arith, some))
  rests-first (w ∷ ws) each some = each w refl

  -- All workers have ended.
  module _ (ended : (core : ℕ) (w : Worker E M g) → slice_get workers core ≡ Some w → HasEnded view turn budget core w) where
    pub speaks-all : (pass : Pass M g) → all_cores pass ≡ map (λ w. own w.pass) workers → length workers ≡ (first_view turn).cores
        → SpeaksForAll turn pass
    speaks-all pass same count core within =
        let w = slice_get_some workers core (omega (arith, within, count)) in
        let seen = seen-times (map (λ w. own w.pass) workers) core (own w.0.pass) (seen-at core w.0 w.1) in
        subst (λ (vs : List CoreView). 0 < times core vs) (sym same)
        (subst (λ (k : ℕ). 0 < times k (map (λ w. own w.pass) workers)) (ended-core view turn budget core w.0 (ended core w.0 w.1)) seen)

    pub rests-own : (pass : Pass M g) → all_cores pass ≡ map (λ w. own w.pass) workers → 0 < length workers → open_of (own pass) ≡ 0
    rests-own pass same some =
        subst (λ (vs : List CoreView). open_of (own_core vs) ≡ 0) (sym same)
        (rests-first workers (λ w got. (ended-alone view turn budget 0 w (ended 0 w got)).rest) some)

    -- The memory that is left, and the ends.
    module _ (y : CountedView) (kept : Keeps (first_view turn) y.memory) (fits : CoresFit y (map (λ w. own w.pass) workers))
        (ends : List CoreEnd)
        (told : (core : ℕ) (it : CoreEnd) → slice_get ends core ≡ Some it → (w : Worker E M g) × ((slice_get workers core ≡ Some w)
        × IsEndOf (view w.slot.engine) (rows w.slot.engine) w.slot.end w.slot.cycles it)) where
      fits-at : (core : ℕ) (w : Worker E M g) → slice_get workers core ≡ Some w → CoreFits y (own w.pass)
      fits-at core w got = AllByRecursion-slice_get (CoreFits y) (map (λ w. own w.pass) workers) core (own w.pass) fits (seen-at core w got)

      pub ends-done : (core : ℕ) (it : CoreEnd) → slice_get ends core ≡ Some it → IsDone budget y.memory core it
      ends-done core it got =
          let w = told core it got in
          ended-done view turn budget core w.0 (ended core w.0 w.1.0) y kept (fits-at core w.0 w.1.0) (rows w.0.slot.engine) it w.1.1

      pub ends-served : (words : List ℕ) (items : List Item) (histories : ℕ → ServiceHistory) → entries items ≡ entries y.memory.history
          → ((core : ℕ) (w : Worker E M g) → slice_get workers core ≡ Some w
          → IsServedAt view tells (side turn w.pass) w.slot.engine w.slot.lane w.slot.end w.slot.cycles (histories core))
          → EndsServed view rows tells (first_view turn) (record { cores = ends; words = words; items = items }) histories
      ends-served words items histories same served core it got =
          let w = told core it got in (
            w.0.slot.engine,
            ended-served view turn budget core w.0 (ended core w.0 w.1.0) y kept (fits-at core w.0 w.1.0) (rows w.0.slot.engine) it w.1.1
                tells items (histories core) same (served core w.0 w.1.0),
          )

  -- How the engines were served.
  pub all-served : (slots : List (CoreSlot E)) (starts : List (Worker E M g)) → length workers ≡ (first_view turn).cores
      → (map (λ w. w.slot) starts ≡ slots)
      → ((core : ℕ) (w : Worker E M g) → slice_get workers core ≡ Some w
      → (was : Worker E M g) × ((slice_get starts core ≡ Some was) × HasWorked view tells turn budget core was w))
      → ((core : ℕ) (s : CoreSlot E) → slice_get slots core ≡ Some s → (history : ServiceHistory) → IsFirstHistory history
      → tells history s.engine)
      → (histories : ℕ → ServiceHistory)
      × (((core : ℕ) (w : Worker E M g) → slice_get workers core ≡ Some w
      → IsServedAt view tells (side turn w.pass) w.slot.engine w.slot.lane w.slot.end w.slot.cycles (histories core))
      × (IsAtOnce (first_view turn) → NoneWaited (first_view turn).cores histories))
  all-served slots starts count are worked first =
      let all = chosen
      (λ core w history. IsServedAt view tells (side turn w.pass) w.slot.engine w.slot.lane w.slot.end w.slot.cycles history)
      (first_history (side_of (first_view turn) 0)) workers
      (λ core w got. (let h = worked core w got in h.1.1.served (first core h.0.slot (slot-at slots core starts h.0 are h.1.0)))) in (
        all.0,
        (
          all.1,
          λ once core within.
              (let w = slice_get_some workers core (omega (arith, within, count)) in
              let h = all.1 core w.0 w.1 in
              (h.at_once (h.bound ∙ rw (once.told, once.bound) refl)).1),
        ),
      )
