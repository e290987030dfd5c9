-- The history at which the cycles of a core serve its engine.
use Rattle.std.proofs.Common.{◌≡◌, ℕ, ◌+◌, ◌≤◌, Bool, true, false, Option, Some, None, refl, ap, sym, ◌∙◌, subst, IsTrue, arith}
use Rattle.std.specs.Prelude.{if◌then◌else◌}
use Rattle.mem_port.specs.declared.engine.Progress.{Progress}
use Rattle.mem_port.specs.declared.port.Withdrawal.{Withdrawal}
use Rattle.mem_port.specs.Calls.{Call}
use Rattle.mem_port.specs.Engine.{EngineView}
use Rattle.mem_port.specs.ServiceHistory.{ServiceHistory, AfterClock, IsLeft, is_unmet}
use Rattle.mem_port.specs.Side.{SideView, KeepsSide}
use Rattle.core_run.specs.declared.lane.Lane.{Lane}
use Rattle.core_run.specs.declared.lane.Came.{Came}
use Rattle.core_run.specs.Cycle.{IsCycle, IsEnding, WaitsLess, lane_after, wait_left}
use Rattle.core_run.specs.Lanes.{IsClosed, IsNoTighter, bound_of, history_after}

-- What calls keep of a side, they keep one after the other.
pub keeps-then : (a b d : SideView) → KeepsSide a b → KeepsSide b d → KeepsSide a d
keeps-then a b d h k = record {
  image = k.image ∙ h.image;
  cores = k.cores ∙ h.cores;
  tells_distances = k.tells_distances ∙ h.tells_distances;
  bound = k.bound ∙ h.bound;
}

-- A want that isn't met has a clock less, another one the bound.
left : {W : Type 0} (told : Bool) (want : Option W) (given : Option ℕ) (remaining_wait bound old : ℕ)
    → (IsTrue told → is_unmet want given ≡ true → remaining_wait + 1 ≤ old)
    → IsLeft (if told then Some bound else None) want given old (wait_left (is_unmet want given) remaining_wait bound)
left false want given remaining_wait bound old waits = tt
left true None None remaining_wait bound old waits = omega arith
left true None (Some word) remaining_wait bound old waits = omega arith
left true (Some want) None remaining_wait bound old waits = waits refl refl
left true (Some want) (Some word) remaining_wait bound old waits = omega arith

bound-kept : (old new : SideView) → KeepsSide old new → bound_of new ≡ bound_of old
bound-kept old new kept = rw (kept.tells_distances, kept.bound) refl

-- Views of a side before and behind a cycle.
histories : (came : Came) (e : EngineView) (old new : SideView) (before : Lane) (p : ServiceHistory) → KeepsSide old new
    → WaitsLess old new before (lane_after e before came) → IsNoTighter p old before
    → AfterClock came.fetched came.reply e p (history_after came e new (lane_after e before came) p)
histories came e old new before p kept waits tight = record {
  service = refl;
  bound = refl;
  fetch = rw (tight.bound, kept.bound)
      (left old.tells_distances e.fetch came.fetched _ old.bound _
      (λ told on. (let a = waits.fetch told on in let b = tight.fetch told in omega (arith, a, b))));
  access = rw (tight.bound, kept.bound)
      (left old.tells_distances e.access came.reply _ old.bound _
      (λ told on. (let a = waits.access told on in let b = tight.access told in omega (arith, a, b))));
  drained = refl;
}

module _ {E S : Type 0} (view : E → EngineView) (times : ServiceHistory → E → Type 0) (side : S → ℕ → SideView)
    (makes : Call → S → S → Type 0) (pays : ℕ → ℕ → S → S → Type 0)
    {choice : ℕ} {came : Came} {result : Progress} {e f : E} {s t : S} {before after : Lane} (p : ServiceHistory)
    (cycle : IsCycle view times side makes pays choice came result e f s t before after)
    (kept : KeepsSide (side s before.core) (side t before.core)) (tight : IsNoTighter p (side s before.core) before) where
  -- A cycle serves its engine on by a history that is no tighter than the side.
  pub cycle-histories : AfterClock came.fetched came.reply (view e) p (history_after came (view e) (side t before.core) after p)
  cycle-histories =
      let W : Lane → Type 0 = λ lane. WaitsLess (side s before.core) (side t before.core) before lane in
      let P : Lane → Type 0 = λ lane. AfterClock came.fetched came.reply (view e) p
      (history_after came (view e) (side t before.core) lane p) in
      subst P (sym cycle.lane) (histories came (view e) (side s before.core) (side t before.core) before p kept
      (subst W cycle.lane cycle.waits) tight)

  -- The history behind it is no tighter than the side behind it.
  pub cycle-no_tighter : IsNoTighter (history_after came (view e) (side t before.core) after p) (side t before.core) after
  cycle-no_tighter = record {
    bound = tight.bound ∙ sym (bound-kept _ _ kept);
    fetch = λ told. omega arith;
    access = λ told. omega arith;
  }

-- The lane behind a cycle, and behind an end, is of the same core.
module _ {E S : Type 0} {view : E → EngineView} {times : ServiceHistory → E → Type 0} {side : S → ℕ → SideView}
    {makes : Call → S → S → Type 0} {pays : ℕ → ℕ → S → S → Type 0} {e f : E} {s t : S} {before after : Lane} where
  pub cycle-core : {choice : ℕ} {came : Came} {result : Progress}
      → IsCycle view times side makes pays choice came result e f s t before after → after.core ≡ before.core
  cycle-core h = ap (λ (l : Lane). l.core) h.lane

  pub ending-core : {access fetch : Withdrawal} → IsEnding view times side makes pays access fetch e f s t before after
      → after.core ≡ before.core
  ending-core h = ap (λ (l : Lane). l.core) h.lane

-- Where nothing was open, a want that a cycle leaves open would have no step left.
shut : (was_open is_open : Bool) (left remaining_wait bound : ℕ) → bound ≡ 0 → was_open ≡ false
    → (is_open ≡ true → left + 1 ≤ wait_left was_open remaining_wait bound) → is_open ≡ false
shut was_open false left remaining_wait bound none closed waits = refl
shut was_open true left remaining_wait bound none closed waits =
    let W : Bool → Type 0 = λ b. left + 1 ≤ wait_left b remaining_wait bound in
    let over = subst W closed (waits refl) in
    absurd (omega (arith, over, none))

pub closed-after : (old new : SideView) (before after : Lane) → IsTrue old.tells_distances → old.bound ≡ 0 → IsClosed before
    → WaitsLess old new before after
    → IsClosed after
closed-after old new before after told none closed waits = record {
  fetch = shut before.open_fetch after.open_fetch _ _ old.bound none closed.fetch (waits.fetch told);
  access = shut before.open_access after.open_access _ _ old.bound none closed.access (waits.access told);
}
