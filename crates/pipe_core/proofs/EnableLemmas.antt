-- A stage that is not enabled stays.
use Rattle.std.proofs.Common.{◌≡◌, ℕ, ◌⊎◌, inl, inr, Bool, true, false, not, ◌&&◌, ◌||◌, refl, ap, sym, ◌∙◌}
use Rattle.std.specs.Prelude.{Option, Some, None, is_some}
use Rattle.mips_isa.specs.declared.Instr.{Instr}
use Rattle.pipe_regs.specs.declared.Slot.{Slot}
use Rattle.stall_engine.specs.declared.Enables.{Enables}
use Rattle.pipe_core.specs.declared.flight.Flight.{Flight}
use Rattle.pipe_core.specs.declared.flight.Operands.{Operands}
use Rattle.pipe_core.specs.Enabled.{AreEnabled}
use Rattle.pipe_core.specs.Moves.{retired, advanced, issued, begun_in, entered}
use Rattle.pipe_core.specs.Steps.{commits, retires, advances, issues, begins, enters}
use Rattle.pipe_core.proofs.ClockTimeLemmas.{commits-same}

-- the stages after WB and M
record AfterRetire (f g : Flight) (goes : Option ℕ) : Type 0 where
  ex : g.stages.ex ≡ f.stages.ex
  id : g.stages.id ≡ f.stages.id
  fetch : g.fetch ≡ f.fetch
  mem : (m : Slot) → f.stages.mem ≡ Some m → goes ≡ None → g.stages.mem ≡ Some m

retire-facts : (f : Flight) (goes : Option ℕ) (mem : Option Slot) (old : ℕ) → goes ≡ Some old → AfterRetire f (retired old f mem) goes
retire-facts f goes None old e = record { ex = refl; id = refl; fetch = refl; mem = λ m k l. cc }
retire-facts f goes (Some m) old e = record { ex = refl; id = refl; fetch = refl; mem = λ n k l. cc }

retires-facts : (f : Flight) (goes : Option ℕ) → AfterRetire f (retires goes f) goes
unfolding retires
retires-facts f None = record { ex = refl; id = refl; fetch = refl; mem = λ m k l. k }
retires-facts f (Some old) = retire-facts f (Some old) f.stages.mem old refl

advance-none : (t : ℕ) (f : Flight) (mem ex : Option Slot) → (ex ≡ None) ⊎ ((m : Slot) × (mem ≡ Some m)) → advanced t f mem ex ≡ f
advance-none t f (Some m) ex e = refl
advance-none t f None None e = refl
advance-none t f None (Some x) (inl e) = cc
advance-none t f None (Some x) (inr e) = (let k = e.1 in cc)

advances-none : (t : ℕ) (f : Flight) → (f.stages.ex ≡ None) ⊎ ((m : Slot) × (f.stages.mem ≡ Some m)) → advances t f ≡ f
unfolding advances
advances-none t f e = advance-none t f f.stages.mem f.stages.ex e

advance-young : (t : ℕ) (f : Flight) (mem ex : Option Slot)
    → ((advanced t f mem ex).stages.id ≡ f.stages.id) × ((advanced t f mem ex).fetch ≡ f.fetch)
advance-young t f (Some m) ex = (refl, refl)
advance-young t f None None = (refl, refl)
advance-young t f None (Some x) = (refl, refl)

advances-young : (t : ℕ) (f : Flight) → ((advances t f).stages.id ≡ f.stages.id) × ((advances t f).fetch ≡ f.fetch)
unfolding advances
advances-young t f = advance-young t f f.stages.mem f.stages.ex

issue-none : (t : ℕ) (o : Option Operands) (f : Flight) (ex id : Option Slot) → (id ≡ None) ⊎ ((o ≡ None) ⊎ ((x : Slot) × (ex ≡ Some x)))
    → issued t o f ex id ≡ f
issue-none t o f (Some x) id e = refl
issue-none t o f None None e = refl
issue-none t None f None (Some x) e = refl
issue-none t (Some o) f None (Some x) (inl e) = cc
issue-none t (Some o) f None (Some x) (inr (inl e)) = cc
issue-none t (Some o) f None (Some x) (inr (inr e)) = (let k = e.1 in cc)

issues-none : (t : ℕ) (o : Option Operands) (f : Flight) → (f.stages.id ≡ None) ⊎ ((o ≡ None) ⊎ ((x : Slot) × (f.stages.ex ≡ Some x)))
    → issues t o f ≡ f
unfolding issues
issues-none t o f e = issue-none t o f f.stages.ex f.stages.id e

issue-fetch : (t : ℕ) (o : Option Operands) (f : Flight) (ex id : Option Slot) → (issued t o f ex id).fetch ≡ f.fetch
issue-fetch t o f (Some x) id = refl
issue-fetch t o f None None = refl
issue-fetch t None f None (Some x) = refl
issue-fetch t (Some o) f None (Some x) = refl

issues-fetch : (t : ℕ) (o : Option Operands) (f : Flight) → (issues t o f).fetch ≡ f.fetch
unfolding issues
issues-fetch t o f = issue-fetch t o f f.stages.ex f.stages.id

begin-id : (t : ℕ) (word : Option (Option Instr)) (f : Flight) (fetch : Option Slot) → ((begun_in t word f fetch).stages.id ≡ f.stages.id)
    × (word ≡ None → (begun_in t word f fetch).fetch ≡ f.fetch)
begin-id t word f (Some y) = (refl, λ e. refl)
begin-id t None f None = (refl, λ e. refl)
begin-id t (Some i) f None = (refl, λ e. cc)

begins-id : (t : ℕ) (word : Option (Option Instr)) (f : Flight)
    → ((begins t word f).stages.id ≡ f.stages.id) × (word ≡ None → (begins t word f).fetch ≡ f.fetch)
unfolding begins
begins-id t word f = begin-id t word f f.fetch

enter-none : (t : ℕ) (f : Flight) (id fetch : Option Slot) → (fetch ≡ None) ⊎ ((x : Slot) × (id ≡ Some x)) → entered t f id fetch ≡ f
enter-none t f (Some x) fetch e = refl
enter-none t f None None e = refl
enter-none t f None (Some y) (inl e) = cc
enter-none t f None (Some y) (inr e) = (let k = e.1 in cc)

enters-none : (t : ℕ) (f : Flight) → (f.fetch ≡ None) ⊎ ((x : Slot) × (f.stages.id ≡ Some x)) → enters t f ≡ f
unfolding enters
enters-none t f e = enter-none t f f.stages.id f.fetch e

ex-false : (ex mem : Option Slot) (goes : Option ℕ) → is_some ex && (not (is_some mem) || (is_some mem && is_some goes)) ≡ false
    → (ex ≡ None) ⊎ ((m : Slot) × ((mem ≡ Some m) × (goes ≡ None)))
ex-false None mem goes e = inl refl
ex-false (Some x) None goes e = cc
ex-false (Some x) (Some m) None e = inr (m, (refl, refl))
ex-false (Some x) (Some m) (Some old) e = cc

id-false : (id : Option Slot) (o : Option Operands) (ex : Option Slot) (b : Bool)
    → is_some id && (is_some o && (not (is_some ex) || b)) ≡ false
    → (id ≡ None) ⊎ ((o ≡ None) ⊎ ((x : Slot) × ((ex ≡ Some x) × (b ≡ false))))
id-false None o ex b e = inl refl
id-false (Some y) None ex b e = inr (inl refl)
id-false (Some y) (Some o) None b e = cc
id-false (Some y) (Some o) (Some x) true e = cc
id-false (Some y) (Some o) (Some x) false e = inr (inr (x, (refl, refl)))

fetch-false : (fetch : Option Slot) (word : Option (Option Instr)) (id : Option Slot) (b : Bool)
    → (is_some fetch || is_some word) && (not (is_some id) || b) ≡ false
    → ((fetch ≡ None) × (word ≡ None)) ⊎ ((x : Slot) × ((id ≡ Some x) × (b ≡ false)))
fetch-false None None id b e = inl (refl, refl)
fetch-false None (Some w) None b e = cc
fetch-false None (Some w) (Some x) true e = cc
fetch-false None (Some w) (Some x) false e = inr (x, (refl, refl))
fetch-false (Some y) word None b e = cc
fetch-false (Some y) word (Some x) true e = cc
fetch-false (Some y) word (Some x) false e = inr (x, (refl, refl))

module _ (e : Enables) (f : Flight) (goes : Option ℕ) (ops : Option Operands) (word : Option (Option Instr))
    (h : AreEnabled e f goes ops word) (t : ℕ) where
  after : AfterRetire f (retires goes (commits f)) goes
  after =
      let c = commits-same f in
      let r = retires-facts (commits f) goes in
      record { ex = r.ex ∙ c.ex; id = r.id ∙ c.id; fetch = r.fetch ∙ c.fetch; mem = λ m k l. r.mem m (c.mem ∙ k) l }

  pub still-ex : e.ex ≡ false → advances t (retires goes (commits f)) ≡ retires goes (commits f)
  still-ex q =
      let same : is_some f.stages.ex && (not (is_some f.stages.mem) || (is_some f.stages.mem && is_some goes)) ≡ false =
      ap (λ b. is_some f.stages.ex && (not (is_some f.stages.mem) || b)) (sym h.mem) ∙ (sym h.ex ∙ q) in
      advances-none t (retires goes (commits f)) (by-case (ex-false f.stages.ex f.stages.mem goes same)) where
        by-case : (f.stages.ex ≡ None) ⊎ ((m : Slot) × ((f.stages.mem ≡ Some m) × (goes ≡ None)))
            → ((retires goes (commits f)).stages.ex ≡ None) ⊎ ((m : Slot) × ((retires goes (commits f)).stages.mem ≡ Some m))
        by-case (inl k) = inl (after.ex ∙ k)
        by-case (inr k) = inr (k.0, after.mem k.0 k.1.0 k.1.1)

  pub still-id : e.id ≡ false → issues t ops (advances t (retires goes (commits f))) ≡ advances t (retires goes (commits f))
  still-id q = issues-none t ops (advances t (retires goes (commits f)))
      (by-case (id-false f.stages.id ops f.stages.ex e.ex (sym h.id ∙ q))) where
        by-case : (f.stages.id ≡ None) ⊎ ((ops ≡ None) ⊎ ((x : Slot) × ((f.stages.ex ≡ Some x) × (e.ex ≡ false))))
            → ((advances t (retires goes (commits f))).stages.id ≡ None)
            ⊎ ((ops ≡ None) ⊎ ((x : Slot) × ((advances t (retires goes (commits f))).stages.ex ≡ Some x)))
        by-case (inl k) = inl ((advances-young t (retires goes (commits f))).0 ∙ (after.id ∙ k))
        by-case (inr (inl k)) = inr (inl k)
        by-case (inr (inr k)) = inr (inr (k.0, ap (λ g. g.stages.ex) (still-ex k.1.1) ∙ (after.ex ∙ k.1.0)))

  pub still-fetch : e.fetch ≡ false
      → enters t (begins t word (issues t ops (advances t (retires goes (commits f)))))
      ≡ begins t word (issues t ops (advances t (retires goes (commits f))))
  still-fetch q =
      enters-none t (begins t word (issues t ops (advances t (retires goes (commits f)))))
      (by-case (fetch-false f.fetch word f.stages.id e.id (sym h.fetch ∙ q))) where
        by-case : ((f.fetch ≡ None) × (word ≡ None)) ⊎ ((x : Slot) × ((f.stages.id ≡ Some x) × (e.id ≡ false)))
            → ((begins t word (issues t ops (advances t (retires goes (commits f))))).fetch ≡ None)
            ⊎ ((x : Slot) × ((begins t word (issues t ops (advances t (retires goes (commits f))))).stages.id ≡ Some x))
        by-case (inl k) =
            inl ((begins-id t word (issues t ops (advances t (retires goes (commits f))))).1 k.1
            ∙ (issues-fetch t ops (advances t (retires goes (commits f)))
            ∙ ((advances-young t (retires goes (commits f))).1 ∙ (after.fetch ∙ k.0))))
        by-case (inr k) =
            inr (
              k.0,
              (begins-id t word (issues t ops (advances t (retires goes (commits f))))).0
                  ∙ (ap (λ g. g.stages.id) (still-id k.1.1) ∙ ((advances-young t (retires goes (commits f))).0 ∙ (after.id ∙ k.1.0))),
            )
