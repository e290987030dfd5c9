-- Each step on the table keeps its rule.
use Rattle.std.proofs.Common.{◌≡◌, ℕ, zero, suc, ◌+◌, ◌<◌, ◌≤◌, cond, true, false, eqb, eq-eqb, ne_eqb, List, [], ◌∷◌, ◌++◌, length, set}
use Rattle.std.proofs.Common.{get_or, Option, Some, None, sym, refl, ap, ◌∙◌, subst, inl, ⊎_elim, arith}
use Rattle.std.specs.Prelude.{MatchOption}
use mathlib.Core.Option.{some, some-injective}
use mathlib.Core.Logic.{dite}
use native.Mathlib.Decide.{ℕ_discrete}
use prog.Atomic.{either}
use lib.ListN.{get_elem?}
use Rattle.atomic_table.specs.Table.{Me, Act, keeps, takes, gives, Valid, Allows, Splits, Joins, opening, carried_after, homes_after, Final}
use Rattle.atomic_table.specs.Table.{Seen as SeenBy}
use Rattle.atomic_table.proofs.Lists.{at_set, at_snoc, set_again, exchanged}
use Rattle.std_laws.proofs.ListLaws.{AllByRecursion-append}
use Rattle.mem_port.specs.Memory.{Keeps}
use Rattle.mem_port.proofs.SideLaws.{kept_twice}
use Rattle.turn.specs.declared.views.CoreView.{CoreView}
use Rattle.turn.specs.declared.views.PassView.{PassView}
use Rattle.turn.specs.Views.{CountedView, CoreFits, CoresFit, LeavesCores, core_view}
use Rattle.turn.specs.Rule.{total, is_some, own_core, joined_cores, cores_from, times, speaks, holding, pass_view, left_of, right_of}
use Rattle.turn.specs.Rule.{both_of, spent_view, opening_view, ViewFits, Stands, IsKept, Acquires, Releases, Event, IsCaused, with_event}
use Rattle.turn.specs.Rule.{counts_of}
use Rattle.turn.specs.Holding.{HasTurn, MayRelease}
use Rattle.turn.proofs.Totals.{total-append, total-set, term_le, terms_le, some_term}
use Rattle.turn.proofs.Others.{cores_keep, times_head}

set_one : {A : Type 0} (l : List A) (a : A) → length l ≡ 1 → set l 0 a ≡ a ∷ []
set_one [] a e = absurd (omega arith)
set_one (x ∷ []) a e = refl
set_one (x ∷ y ∷ l) a e = absurd (omega arith)

not_taken : {A : Type 0} (t : Option A) (P : A → Type 0) → is_some t ≡ 0 → MatchOption t (Unit {0}) P
not_taken None P e = tt
not_taken (Some x) P e = absurd (omega arith)

-- How often a core is spoken for.

times_replaced : (vs : List CoreView) (v : CoreView) (c : ℕ) → 0 < length vs → v.core ≡ (own_core vs).core
    → times c (v ∷ joined_cores vs) ≡ times c vs
times_replaced [] v c h e = absurd (omega arith)
times_replaced (w ∷ vs) v c h e = ap (λ (n : ℕ). cond (eqb n c) 1 0 + times c vs) e

times_own : (vs : List CoreView) → 0 < length vs → times (own_core vs).core vs ≡ 1 + times (own_core vs).core (joined_cores vs)
times_own [] h = absurd (omega arith)
times_own (v ∷ vs) h = times_head v.core v vs refl

times_cut : (vs : List CoreView) (c : ℕ) → 0 < length vs → times c (joined_cores vs) + times c (own_core vs ∷ []) ≡ times c vs
times_cut [] c h = absurd (omega arith)
times_cut (v ∷ vs) c h = omega arith

times_before : (x : CountedView) (c n d : ℕ) → d < c → times d (cores_from x c n) ≡ 0
times_before x c zero d h = refl
times_before x c (suc n) d h =
    let ne : eqb c d ≡ false = ne_eqb c d (λ e. omega arith) in let t = times_before x (suc c) n d (omega arith) in rw ne (omega arith)

times_once : (x : CountedView) (c n d : ℕ) → times d (cores_from x c n) ≤ 1
times_once x c zero d = omega arith
times_once x c (suc n) d =
    dite (ℕ_discrete c d)
    (λ e. let is : eqb c d ≡ true = eq-eqb c d e in let t = times_before x (suc c) n d (omega arith) in rw is (omega arith))
    (λ ne. let is : eqb c d ≡ false = ne_eqb c d ne in let t = times_once x (suc c) n d in rw is (omega arith))

-- What was seen of cores is so.

own_fits : (x : CountedView) (vs : List CoreView) → 0 < length vs → CoresFit x vs → CoreFits x (own_core vs) × CoresFit x (joined_cores vs)
own_fits x [] h f = absurd (omega arith)
own_fits x (v ∷ vs) h f = f

fits-own : (x : CountedView) (c : ℕ) → c < x.memory.cores → CoreFits x (core_view x c)
fits-own x c within = record {
  within = within;
  fetch = record { state = inl refl; asks_left = refl; asked = refl; helping = refl };
  access = record { state = inl refl; asks_left = refl; asked = refl; helping = refl };
  moved = refl;
  entries = refl;
}

module _ {S : Type 0} (seen : S → CountedView) (o : S) where
  -- What it means that a pass has taken the memory.
  abbrev taken_as : S → ℕ → List CoreView → S → Type 0
  taken_as m word vs t = (t ≡ m) × ((0 < length vs) × (word ≡ (own_core vs).core + 1))

  -- At most one pass holds the memory.
  one_holder : (m : S) (word : ℕ) (homes : _) (views : List (PassView S)) → Stands seen o m word homes views → total holding views ≤ 1
  one_holder m word homes views st =
      dite (ℕ_discrete word 0) (λ e. let h = (st.free e).1 in omega arith) (λ ne. let h = st.held ne in omega arith)

  origin_keeps : (t : Option S) (m : S) → MatchOption t (Unit {0}) (λ k. k ≡ o) → Keeps (seen o).memory (seen m).memory → (k : S)
      → t ≡ Some k
      → Keeps (seen k).memory (seen m).memory
  origin_keeps t m h kept k e =
      let P : Option S → Type 0 = λ x. MatchOption x (Unit {0}) (λ k. k ≡ o) in
      let Q : S → Type 0 = λ x. Keeps (seen x).memory (seen m).memory in
      subst Q (sym (subst P e h)) kept

  pub acquires : (id k : ℕ) (me : Me S (PassView S)) → me.1 ≡ [] → me.0.taken ≡ None → 0 < length me.0.cores
      → k ≡ (own_core me.0.cores).core + 1
      → Allows (IsKept seen o) 1 id me 0 (λ n. either (eqb n 0) k n) (Acquires seen me)
  acquires id k me empty idle some_core number s kept slots at wide =
      let m : S = kept.0 in let word : ℕ = kept.1 in let st = kept.3 in
      let w : PassView S = pass_view me.0.origin (Some m) me.0.cores (counts_of me.0) in
      let mine = st.fits id me.0 at in
      let was : holding me.0 ≡ 0 = ap is_some idle in
      let F : ℕ → Type 0 = λ n. (w : PassView S) × (a : Act S) × Valid s.homes me.1 a
      × IsKept seen o record { words = n ∷ []; homes = homes_after s.homes me.1 a; views = set s.views id w }
      × Acquires seen me word (w, carried_after me.1 a) in
      let G : List ℕ → Type 0 = λ ws. (w : PassView S) × (a : Act S) × Valid s.homes me.1 a
      × IsKept seen o record {
        words = set ws 0 (either (eqb (get_or ws 0 0) 0) k (get_or ws 0 0));
        homes = homes_after s.homes me.1 a;
        views = set s.views id w;
      }
      × Acquires seen me (get_or ws 0 0) (w, carried_after me.1 a) in
      subst G (sym kept.2) (exchanged word 0 k F
      (λ e. let there = st.free e in (
        w,
        takes 0 m,
        ap (λ (h : List (mathlib.Core.Option.Option S)). get_elem? h 0) there.0,
        (
          m,
          k,
          refl,
          record {
            fits = λ i u a. ⊎_elim
                (λ (t : (i ≡ id) × (w ≡ u)). subst (ViewFits seen o m k) t.1 record {
                  cores = mine.cores;
                  origin = mine.origin;
                  taken = (refl, (some_core, number));
                })
                (λ t.
                let f = st.fits i u t.1 in
                let within = term_le holding s.views i u t.1 in
                let all = there.1 in
                record { cores = f.cores; origin = f.origin; taken = not_taken u.taken (taken_as m k u.cores) (omega arith) })
                (at_set s.views id i w u a);
            once = λ c. let t = total-set (speaks c) s.views id me.0 w at in let n = st.once c in omega arith;
            free = λ z. absurd (omega (arith, z, number));
            held = λ _. let t = total-set holding s.views id me.0 w at in let n = there.1 in omega arith;
            kept = st.kept;
          },
        ),
        (
          (λ _. (m, ap (λ (l : List (ℕ × S)). (w, (0, m) ∷ l)) empty, mine.cores, origin_keeps me.0.origin m mine.origin st.kept)),
          (λ ne. absurd (ne e)),
        ),
      ))
      (λ ne. (
        me.0,
        keeps,
        tt,
        (m, word, refl, subst (Stands seen o m word s.homes) (sym (set_again s.views id me.0 at)) st),
        ((λ e. absurd (ne e)), (λ _. refl)),
      )))

  -- The slot comes home, and the own core is seen as the memory now has it.
  releases_at : (event : Event) (id : ℕ) (v : PassView S) (m0 m : S) → v.taken ≡ Some m0 → 0 < length v.cores
      → LeavesCores (own_core v.cores).core (seen m0) (seen m) → (own_core v.cores).core < (seen m).memory.cores
      → IsCaused event (own_core v.cores).core (seen m0) (seen m)
      → Allows (IsKept seen o) 1 id (v, (0, m) ∷ []) 0 (λ _. 0) (λ _. Releases seen event (v, (0, m) ∷ []))
  releases_at event id v m0 m has some_core leaves within caused s kept slots at wide =
      let m1 : S = kept.0 in let word : ℕ = kept.1 in let st = kept.3 in
      let own : CoreView = core_view (seen m) (own_core v.cores).core in
      let w : PassView S = pass_view v.origin None (own ∷ joined_cores v.cores) (with_event event (counts_of v)) in
      let c : ℕ = (own_core v.cores).core in
      let mine = st.fits id v at in
      let P : Option S → Type 0 = λ t. MatchOption t (Unit {0}) (taken_as m1 word v.cores) in
      let same : m0 ≡ m1 = (subst P has mine.taken).0 in
      let leaves1 : LeavesCores c (seen m1) (seen m) = subst (λ (z : S). LeavesCores c (seen z) (seen m)) same leaves in
      let was : holding v ≡ 1 = ap is_some has in
      let most = one_holder m1 word s.homes s.views st in
      let own_once = times_own v.cores some_core in
      let once = st.once c in
      let bound = term_le (speaks c) s.views id v at in
      let G : List ℕ → Type 0 = λ ws. IsKept seen o record { words = set ws 0 0; homes = set s.homes 0 (some m); views = set s.views id w }
      in (
        w,
        gives,
        tt,
        subst G (sym kept.2) (
          m,
          0,
          refl,
          record {
            fits = λ i u a. ⊎_elim
                (λ (t : (i ≡ id) × (w ≡ u)). subst (ViewFits seen o m 0) t.1 record {
                  cores = (
                    fits-own (seen m) c within,
                    cores_keep c (seen m1) (seen m) (joined_cores v.cores) leaves1 (omega arith)
                        (own_fits (seen m1) v.cores some_core mine.cores).1,
                  );
                  origin = mine.origin;
                  taken = tt;
                })
                (λ t.
                let f = st.fits i u t.1 in
                let both = terms_le (speaks c) s.views id i v u t.0 at t.1 in
                let holders = terms_le holding s.views id i v u t.0 at t.1 in
                record {
                  cores = cores_keep c (seen m1) (seen m) u.cores leaves1 (omega arith) f.cores;
                  origin = f.origin;
                  taken = not_taken u.taken (taken_as m 0 u.cores) (omega arith);
                })
                (at_set s.views id i w u a);
            once = λ d. let t = total-set (speaks d) s.views id v w at in let n = st.once d in
                let e = times_replaced v.cores own d some_core refl in omega arith;
            free = λ _. (set_one s.homes (some m) slots, (let t = total-set holding s.views id v w at in omega arith));
            held = λ ne. absurd (ne refl);
            kept = kept_twice st.kept leaves1.memory.kept;
          },
        ),
        (m, refl, refl, (m0, (has, caused))),
      )

  pub releases : (event : Event) (id : ℕ) (me : Me S (PassView S)) → MayRelease seen event me
      → Allows (IsKept seen o) 1 id me 0 (λ _. 0) (λ _. Releases seen event me)
  releases event id me r =
      let P : Me S (PassView S) → Type 0 = λ x. Allows (IsKept seen o) 1 id x 0 (λ _. 0) (λ _. Releases seen event x) in
      subst P (sym r.is) (releases_at event id r.view r.taken r.memory r.has r.some_core r.leaves r.within r.caused)

  pub splits : (id : ℕ) (v : PassView S) → v.taken ≡ None → 0 < length v.cores → Splits (IsKept seen o) id v (left_of v) (right_of v)
  splits id v idle some_core s kept at =
      let m : S = kept.0 in let word : ℕ = kept.1 in let st = kept.3 in let mine = st.fits id v at in
      let l : PassView S = left_of v in let r : PassView S = right_of v in
      let halves = own_fits (seen m) v.cores some_core mine.cores in
      let was : holding v ≡ 0 = ap is_some idle in
      let views : List (PassView S) = set s.views id l ++ r ∷ [] in
      let sums : (f : PassView S → ℕ) → total f views ≡ total f (set s.views id l) + f r =
      λ f. omega (arith, total-append f (set s.views id l) (r ∷ [])) in
      let holders : total holding views ≡ total holding s.views =
      let t = total-set holding s.views id v l at in let n = sums holding in omega arith in (
        m,
        word,
        kept.2,
        record {
          fits = λ i u a. ⊎_elim
              (λ (b : get_elem? (set s.views id l) i ≡ some u). ⊎_elim
              (λ (t : (i ≡ id) × (l ≡ u)). subst (ViewFits seen o m word) t.1 record {
                cores = halves.1;
                origin = mine.origin;
                taken = not_taken v.taken (taken_as m word (joined_cores v.cores)) was;
              })
              (λ t. st.fits i u t.1) (at_set s.views id i l u b))
              (λ (e : r ≡ u). subst (ViewFits seen o m word) e record { cores = (halves.0, tt); origin = mine.origin; taken = tt })
              (at_snoc (set s.views id l) r u i a);
          once = λ c. let t = total-set (speaks c) s.views id v l at in let n = st.once c in let e = sums (speaks c) in
              let k = times_cut v.cores c some_core in omega arith;
          free = λ z. let f = st.free z in (f.0, holders ∙ f.1);
          held = λ z. holders ∙ st.held z;
          kept = st.kept;
        },
      )

  pub joins : (id : ℕ) (v : PassView S) (other : ℕ) (w : PassView S) → v.taken ≡ None → w.taken ≡ None
      → Joins (IsKept seen o) id v other w (both_of v w) spent_view
  joins id v other w idle idle' s kept at apart at' =
      let m : S = kept.0 in let word : ℕ = kept.1 in let st = kept.3 in let mine = st.fits id v at in
      let b : PassView S = both_of v w in
      let first : List (PassView S) = set s.views id b in
      let theirs : ViewFits seen o m word w =
      ⊎_elim (λ (t : (other ≡ id) × (b ≡ w)). absurd (apart t.0)) (λ t. st.fits other w t.1) (at_set s.views id other b w at') in
      let was : holding v ≡ 0 = ap is_some idle in let was' : holding w ≡ 0 = ap is_some idle' in
      let sums : (f : PassView S → ℕ) → f b ≡ f v + f w → f spent_view ≡ 0 → total f (set first other spent_view) ≡ total f s.views =
      λ f e z. let t = total-set f s.views id v b at in let t' = total-set f first other w spent_view at' in omega arith in
      let holders = sums holding (omega arith) refl in (
        m,
        word,
        kept.2,
        record {
          fits = λ i u a. ⊎_elim
              (λ (t : (i ≡ other) × (spent_view ≡ u)). subst (ViewFits seen o m word) t.1 record { cores = tt; origin = tt; taken = tt })
              (λ t. ⊎_elim
              (λ (t : (i ≡ id) × (b ≡ u)). subst (ViewFits seen o m word) t.1 record {
                cores = AllByRecursion-append (CoreFits (seen m)) v.cores w.cores mine.cores theirs.cores;
                origin = mine.origin;
                taken = not_taken v.taken (taken_as m word (v.cores ++ w.cores)) was;
              })
              (λ t. st.fits i u t.1) (at_set s.views id i b u t.1))
              (at_set first other i spent_view u a);
          once = λ c. let n = st.once c in
              let e = sums (speaks c) (total-append (λ (p : CoreView). cond (eqb p.core c) 1 0) v.cores w.cores) refl in omega arith;
          free = λ z. let f = st.free z in (f.0, holders ∙ f.1);
          held = λ z. holders ∙ st.held z;
          kept = st.kept;
        },
      )

  cores_fit : (c n : ℕ) → c + n ≤ (seen o).memory.cores → CoresFit (seen o) (cores_from (seen o) c n)
  cores_fit c zero le = tt
  cores_fit c (suc n) le = (fits-own (seen o) c (omega arith), cores_fit (suc c) n (omega arith))

  pub opens : IsKept seen o (opening (0 ∷ []) (o ∷ []) (opening_view seen o))
  opens =
      let v : PassView S = opening_view seen o in (
        o,
        0,
        refl,
        record {
          fits = λ i u a. ⊎_elim (λ (e : get_elem? [] i ≡ some u). absurd (mathlib.Core.Option.some-ne-none u (sym e)))
              (λ (e : v ≡ u). subst (ViewFits seen o o 0) e record {
                cores = cores_fit 0 (seen o).memory.cores (omega arith);
                origin = refl;
                taken = tt;
              })
              (at_snoc [] v u i a);
          once = λ c. let t = times_once (seen o) 0 (seen o).memory.cores c in omega arith;
          free = λ _. (refl, refl);
          held = λ ne. absurd (ne refl);
          kept = record { image = refl; cores = refl; caches = refl; tells_distances = refl; bound = refl; tells_load = refl };
        },
      )

  taken_some : {A : Type 0} (t : Option A) (P : A → Type 0) → 0 < is_some t → MatchOption t (Unit {0}) P → (x : A) × P x
  taken_some None P h f = absurd (omega arith)
  taken_some (Some x) P h f = (x, f)

  -- Who speaks for every core is alone, so the memory is at home.
  pub closes : (id : ℕ) (v : PassView S) (ws : List ℕ) (ys : List S) → v.taken ≡ None
      → ((c : ℕ) → c < (seen o).memory.cores → 0 < times c v.cores)
      → Final (SeenBy (IsKept seen o) id v) ws ys
      → (m : S) × (get_elem? ys 0 ≡ some m) × CoresFit (seen m) v.cores × Keeps (seen o).memory (seen m).memory
  closes id v ws ys idle all f =
      let s = f.0 in let kept = f.1.0 in let at = f.1.1 in
      let m : S = kept.0 in let word : ℕ = kept.1 in let st = kept.3 in
      let was : holding v ≡ 0 = ap is_some idle in
      let zero_word : word ≡ 0 = dite (ℕ_discrete word 0) (λ e. e) (λ ne.
      let h = st.held ne in
      let t = some_term holding s.views (omega arith) in
      let u : PassView S = t.1 in
      let fu = st.fits t.0 u t.2 in
      let has = taken_some u.taken (taken_as m word u.cores) t.3 fu.taken in
      let fo = own_fits (seen m) u.cores has.1.1.0 fu.cores in
      let c : ℕ = (own_core u.cores).core in
      let near : c < (seen o).memory.cores = subst (λ (n : ℕ). c < n) st.kept.cores fo.0.within in
      let mine = all c near in
      let theirs = times_own u.cores has.1.1.0 in
      let once = st.once c in
      dite (ℕ_discrete t.0 id)
      (λ e. let same : v ≡ u = some-injective v u (sym at ∙ (ap (get_elem? s.views) (sym e) ∙ t.2)) in
      let b = ap holding same in let p = t.3 in absurd (omega arith))
      (λ apart. let sum = terms_le (speaks c) s.views id t.0 v u apart at t.2 in absurd (omega arith))) in (
        m,
        f.4 0 m (ap (λ (h : List (mathlib.Core.Option.Option S)). get_elem? h 0) (st.free zero_word).0),
        (st.fits id v at).cores,
        st.kept,
      )

  -- What the lock tells as it is taken.
  pub has_turn : (me w : Me S (PassView S)) (n : ℕ) → 0 < length me.0.cores → n ≡ 0 → Acquires seen me n w → HasTurn seen me w
  has_turn me w n some_core e t =
      let h = t.0 e in record { memory = h.0; is = h.1; fits = (own_fits (seen h.0) me.0.cores some_core h.2).0; kept = h.3 }
