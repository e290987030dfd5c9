-- The end of a core: the one that its last cycle makes is right, and its engine is served by a history behind it.
use Rattle.std.proofs.Common.{◌≡◌, ℕ, ◌+◌, ◌≤◌, inl, inr, Bool, true, false, Option, Some, None, List, ◌++◌, append-nil, refl, ap, sym, ◌∙◌}
use Rattle.std.proofs.Common.{subst}
use Rattle.std.specs.Prelude.{◌==◌, ◌&&◌, not, if◌then◌else◌, map}
use Rattle.std.proofs.lemmas.Bool.{cases_Bool, eqb-true}
use Rattle.std.proofs.lemmas.List.{map-append}
use Rattle.std.proofs.lemmas.Option.{same_Some}
use Rattle.std.proofs.Math.Bool.{and-false}
use Rattle.mips_isa.specs.declared.Stop.{Stop}
use Rattle.access_log.specs.declared.Entry.{Entry}
use Rattle.access_log.specs.Stamps.{Stamp, stamped}
use Rattle.timetable.specs.declared.End.{End}
use Rattle.timetable.specs.declared.End.TheVariants.{Stopped, Spent}
use Rattle.mem_port.specs.declared.port.Withdrawal.{Withdrawal}
use Rattle.mem_port.specs.declared.port.Withdrawal.TheVariants as withdrawal
use Rattle.mem_port.specs.declared.engine.Progress.{Progress}
use Rattle.mem_port.specs.declared.engine.Progress.TheVariants as progress
use Rattle.mem_port.specs.Loaded.{stop}
use Rattle.mem_port.specs.Engine.{EngineView}
use Rattle.mem_port.specs.ServiceHistory.{ServiceHistory, after_drain, executed_by}
use Rattle.mem_port.specs.Side.{SideView}
use Rattle.core_run.specs.declared.lane.Lane.{Lane}
use Rattle.core_run.specs.Cycle.{IsDrained, found_by, late_reply}
use Rattle.core_run.specs.Lanes.{IsCoupled, Progressed, StopsWhereDead}
use Rattle.core_run.specs.Running.{EndFits, goes_on, end_after}
use Rattle.core_run.proofs.LaneLemmas.{executed-none, open-lives}
use Rattle.core_run.proofs.StampLemmas.{entries-stamped}

spent-goes_on : (is_spent : Bool) → goes_on (if is_spent then Some Spent else None) ≡ true
spent-goes_on true = refl
spent-goes_on false = refl

-- Whether a core goes on behind a cycle tells whether its engine is live.
pub live-after : (result : Progress) (cycles budget : ℕ) (e : EngineView) → Progressed result e
    → e.is_live ≡ goes_on (end_after result cycles budget)
live-after progress.Running cycles budget e live = live ∙ sym (spent-goes_on (cycles == budget))
live-after (progress.Stopped why) cycles budget e live = live.0

-- A core that has stopped stands at its stop.
pub dead-stops : (result : Progress) (e : EngineView) → Progressed result e → StopsWhereDead e
dead-stops progress.Running e live dead = cc
dead-stops (progress.Stopped why) e h dead = (why, h.1)

fits-spent : (is : Bool) (cycles budget : ℕ) (end : End) (stops : Option Stop) → (is ≡ true → cycles ≡ budget)
    → (if is then Some Spent else None) ≡ Some end → EndFits end budget cycles stops
fits-spent true cycles budget end stops at h = subst (λ (e : End). EndFits e budget cycles stops) (same_Some Spent end h) (at refl)
fits-spent false cycles budget end stops at h = cc

-- The end that a cycle makes is one of its core.
pub end-fits : (result : Progress) (cycles budget : ℕ) (end : End) (x y : EngineView) → Progressed result x
    → end_after result cycles budget ≡ Some end → cycles ≤ budget
    → (x.is_live ≡ false → y ≡ x) → EndFits end budget cycles (stop y.image y.state)
end-fits progress.Running cycles budget end x y live is within same =
    fits-spent (cycles == budget) cycles budget end _ (eqb-true cycles budget) is
end-fits (progress.Stopped why) cycles budget end x y h is within same =
    subst (λ (e : End). EndFits e budget cycles (stop y.image y.state)) (same_Some (Stopped why) end is) (rw (same h.0) h.1, within)

-- Where a core has stopped, no access of its is open.
pub stopped-closed : (e : EngineView) (s : SideView) (lane : Lane) → IsCoupled e s lane → StopsWhereDead e → e.is_live ≡ false
    → lane.open_access ≡ false
stopped-closed e s lane coupled dead stopped =
    elim (cases_Bool lane.open_access) as (λ _. lane.open_access ≡ false)
    [ inl on ↦ (let live = open-lives e s lane coupled dead on in cc) | inr off ↦ off ]

pub stays-closed : {E : Type 0} (view : E → EngineView) (times : ServiceHistory → E → Type 0) (is_open : Bool) (answer : Withdrawal)
    (e f : E) → is_open ≡ false → IsDrained view times is_open answer e f → f ≡ e
stays-closed view times false answer e f closed same = same
stays-closed view times true answer e f closed drained = cc

-- The history behind an end, by whether an access was open and what became of it.
abbrev pub last_history : Bool → Withdrawal → EngineView → ServiceHistory → ServiceHistory
last_history false answer e p = p
last_history true answer e p = record p { service = after_drain (found_by answer) e p.service; is_drained = true }

module _ (e : EngineView) (p : ServiceHistory) where
  abbrev received : ServiceHistory → List Entry
  received q = map (λ (stamp : Stamp). stamp.entry) q.service.accesses

  pub last-clocks : (is_open : Bool) (answer : Withdrawal) → (last_history is_open answer e p).service.clocks ≡ p.service.clocks
  last-clocks false answer = refl
  last-clocks true withdrawal.Withdrawn = refl
  last-clocks true (withdrawal.Answered word) = refl

  pub last-bound : (is_open : Bool) (answer : Withdrawal) → (last_history is_open answer e p).bound ≡ p.bound
  last-bound false answer = refl
  last-bound true answer = refl

  pub last-same : (is_open : Bool) (answer : Withdrawal) → is_open ≡ false → last_history is_open answer e p ≡ p
  last-same false answer closed = refl
  last-same true answer closed = cc

  none-received : map (λ (stamp : Stamp). stamp.entry) p.service.accesses ≡ received p ++ executed_by e.core e.access None
  none-received = rw (executed-none e.core e.access) (sym (append-nil (received p)))

  pub last-accesses : (is_open : Bool) (answer : Withdrawal) → received (last_history is_open answer e p) ≡ received p
      ++ executed_by e.core e.access (late_reply is_open answer)
  last-accesses false answer = none-received
  last-accesses true withdrawal.Withdrawn = none-received
  last-accesses true (withdrawal.Answered word) =
      map-append _ p.service.accesses (stamped (p.service.clocks + 1) (executed_by e.core e.access (Some word)))
      ∙ ap (λ t. received p ++ t) (entries-stamped (p.service.clocks + 1) (executed_by e.core e.access (Some word)))

module _ {E : Type 0} (view : E → EngineView) (times : ServiceHistory → E → Type 0) {e f : E} (p : ServiceHistory) where
  pub last-tells : (is_open : Bool) (answer : Withdrawal) → IsDrained view times is_open answer e f → times p e
      → times (last_history is_open answer (view e) p) f
  last-tells false answer same tells = subst (λ (x : E). times p x) (sym same) tells
  last-tells true answer drained tells = drained.1 p (last_history true answer (view e) p) tells refl

pub last-live : {E : Type 0} (view : E → EngineView) (times : ServiceHistory → E → Type 0) {e f : E} (p : ServiceHistory) (is_open : Bool)
    (answer : Withdrawal) (goes : Bool) → IsDrained view times is_open answer e f
    → (view e).is_live ≡ (goes && not p.is_drained) → (view f).is_live ≡ (goes && not (last_history is_open answer (view e) p).is_drained)
last-live {E} view times p false answer goes same live = ap (λ (x : E). (view x).is_live) same ∙ live
last-live view times p true answer goes drained live = drained.0.live ∙ sym (and-false goes)
