-- What a memory is in which all is so that was seen of every core, when no core has an open request.
use Rattle.std.proofs.Common.{◌≡◌, ℕ, zero, suc, ◌+◌, ◌*◌, ◌<◌, ◌≤◌, cond, Bool, true, false, IsTrue, List, [], ◌∷◌, ◌++◌, length, Some}
use Rattle.std.proofs.Common.{inl, inr, sym, refl, ap, ◌∙◌, subst, arith, eqb, eq-eqb, ne_eqb}
use Rattle.std.specs.Prelude.{slice_get}
use Rattle.std.proofs.lemmas.Bool.{cases_eq}
use Rattle.std.proofs.lemmas.Option.{same_Some}
use Rattle.std.proofs.Math.Nat.{le-mul_of_pos_right, mul-le-mul_left}
use mathlib.Core.Option.{some, some-injective}
use lib.ListN.{get_elem?}
use Rattle.std_laws.proofs.ListLaws.{AllByRecursion-slice_get}
use Rattle.access_log.specs.Items.{own_items}
use Rattle.mem_port.specs.declared.port.Port.{Port}
use Rattle.mem_port.specs.declared.port.Port.TheVariants.{Fetch, Access}
use Rattle.mem_port.specs.declared.port.PortState.{PortState}
use Rattle.mem_port.specs.declared.port.PortState.TheVariants.{Free, Asked, Waiting, Answered, Closed}
use Rattle.mem_port.specs.Ports.{core_of, IsAtRest, taken_of}
use Rattle.mem_port.specs.Memory.{MemoryView, Keeps, steps_of_request}
use Rattle.mem_port.proofs.PortLaws.{rest-taken}
use Rattle.mem_port.proofs.SideLaws.{rest-evolves}
use Rattle.turn.specs.declared.views.CoreView.{CoreView}
use Rattle.turn.specs.Numbers.{all_asked, IsPaid}
use Rattle.turn.specs.Views.{CountedView, CoreFits, CoresFit, port_in, open_on, open_of, asks_of}
use Rattle.turn.specs.Rule.{total, own_core, joined_cores, times}
use Rattle.turn.proofs.CoreLaws.{fits-port}
use Rattle.turn.proofs.Totals.{total-append}

pub found_is : {A : Type 0} (l : List A) (k : ℕ) (a b : A) → get_elem? l k ≡ some a → get_elem? l k ≡ some b → a ≡ b
found_is l k a b e f = some-injective a b (sym e ∙ f)

-- A core that is spoken for is seen.
is-among : (vs : List CoreView) (c : ℕ) → 0 < times c vs → (i : ℕ) × ((v : CoreView) × ((slice_get vs i ≡ Some v) × (v.core ≡ c)))
is-among [] c h = absurd (omega arith)
is-among (v ∷ vs) c h =
    elim (cases_eq v.core c) as (λ _. (i : ℕ) × ((w : CoreView) × ((slice_get (v ∷ vs) i ≡ Some w) × (w.core ≡ c)))) [
      | inl e ↦ (0, (v, (refl, e)))
      | inr ne ↦
          (let off : eqb v.core c ≡ false = ne_eqb v.core c ne in
          let less : 0 < cond (eqb v.core c) 1 0 + times c vs = h in
          let rest : 0 < 0 + times c vs = rw off at less in
          let t = is-among vs c (omega (arith, rest)) in (suc t.0, t.1))
    ]

-- Open requests.

pub open-own : (vs : List CoreView) → open_of (own_core vs) ≡ 0 → total open_of (joined_cores vs) ≡ 0 → total open_of vs ≡ 0
open-own [] own joined = refl
open-own (v ∷ vs) own joined = omega (arith, own, joined)

pub open-joined : (vs ws : List CoreView) → 0 < length vs → total open_of (joined_cores vs) ≡ 0 → open_of (own_core ws) ≡ 0
    → total open_of (joined_cores ws) ≡ 0 → total open_of (joined_cores (vs ++ ws)) ≡ 0
open-joined [] ws h joined own rest = absurd (omega arith)
open-joined (v ∷ vs) ws h joined own rest = let t = total-append open_of vs ws in let o =
    open-own ws own rest in omega (arith, t, o, joined)

open-each : (vs : List CoreView) (i : ℕ) (v : CoreView) → total open_of vs ≡ 0 → slice_get vs i ≡ Some v → open_of v ≡ 0
open-each [] i v none got = cc
open-each (w ∷ vs) zero v none got = ap open_of (sym (same_Some w v got)) ∙ omega (arith, none)
open-each (w ∷ vs) (suc i) v none got = open-each vs i v (omega (arith, none)) got

not-open : (s : PortState) → open_on s ≡ 0 → IsAtRest s
not-open Free h = tt
not-open (Asked r) h = absurd (omega (arith, h))
not-open (Waiting r) h = absurd (omega (arith, h))
not-open (Answered r word) h = absurd (omega (arith, h))
not-open Closed h = tt

core-rests : (v : CoreView) (q : Port) → open_of v ≡ 0 → IsAtRest (port_in v q).state
core-rests v (Fetch c) h = not-open v.fetch.state (omega (arith, h))
core-rests v (Access c) h = not-open v.access.state (omega (arith, h))

-- Where no request is open, ports are as they were seen, and what was taken is all that the history has.

module _ (y : CountedView) (vs : List CoreView) (fits : CoresFit y vs) (none : total open_of vs ≡ 0) where
  pub rest-own : (i : ℕ) (v : CoreView) → slice_get vs i ≡ Some v → own_items y.memory.history v.core ≡ v.entries
  rest-own i v got =
      let f = AllByRecursion-slice_get (CoreFits y) vs i v fits got in
      let h = core-rests v (Access v.core) (open-each vs i v none got) in
      let same = rest-evolves f.access.state h in
      let A : PortState → Type 0 = λ z. taken_of z (own_items y.memory.history v.core) ≡ own_items y.memory.history v.core in
      sym (subst A (sym same) (rest-taken v.access.state (own_items y.memory.history v.core) h)) ∙ sym f.entries

  pub rest-port : (q : Port) → 0 < times (core_of q) vs → IsAtRest (y.memory.port q)
  rest-port q spoken =
      let t = is-among vs (core_of q) spoken in let v : CoreView = t.1.0 in
      let f = AllByRecursion-slice_get (CoreFits y) vs t.0 v fits t.1.1.0 in
      let h = core-rests v q (open-each vs t.0 v none t.1.1.0) in
      let same = rest-evolves (fits-port y v q (sym t.1.1.1) f).state h in
      let A : PortState → Type 0 = λ z. IsAtRest z in subst A (sym same) h

-- The requests of cores that are all spoken for.

module _ (f : ℕ → ℕ) where
  -- A number of each core below one, as often as it is spoken for.
  weighed : List CoreView → ℕ → ℕ
  weighed vs zero = 0
  weighed vs (suc c) = weighed vs c + f c * times c vs

  weighed-none : (k : ℕ) → weighed [] k ≡ 0
  unfolding weighed
  weighed-none zero = refl
  weighed-none (suc c) = let i = weighed-none c in omega (arith, i)

  weighed-before : (v : CoreView) (vs : List CoreView) (k : ℕ) → k ≤ v.core → weighed (v ∷ vs) k ≡ weighed vs k
  unfolding weighed
  weighed-before v vs zero h = refl
  weighed-before v vs (suc c) h =
      let off : eqb v.core c ≡ false = ne_eqb v.core c (λ e. absurd (omega (arith, h, e))) in
      let i = weighed-before v vs c (omega (arith, h)) in rw off (omega (arith, i))

  weighed-one : (v : CoreView) (vs : List CoreView) (k : ℕ) → weighed (v ∷ vs) k ≤ f v.core + weighed vs k
  unfolding weighed
  weighed-one v vs zero = omega arith
  weighed-one v vs (suc c) =
      elim (cases_eq v.core c) as (λ _. weighed (v ∷ vs) (suc c) ≤ f v.core + weighed vs (suc c)) [
        | inl e ↦
            (let on : eqb v.core c ≡ true = eq-eqb v.core c e in
            let i = weighed-before v vs c (omega (arith, e)) in
            let same = ap f e in rw (on, i) (omega (arith, same)))
        | inr ne ↦
            (let off : eqb v.core c ≡ false = ne_eqb v.core c ne in
            let i = weighed-one v vs c in rw off (omega (arith, i)))
      ]

  weighed-total : (vs : List CoreView) (k : ℕ) → weighed vs k ≤ total (λ (v : CoreView). f v.core) vs
  weighed-total [] k = let i = weighed-none k in omega (arith, i)
  weighed-total (v ∷ vs) k = let i = weighed-one v vs k in let j = weighed-total vs k in omega (arith, i, j)

abbrev asked-of : (Port → ℕ) → ℕ → ℕ
asked-of asked c = asked (Fetch c) + asked (Access c)

asked-weighed : (asked : Port → ℕ) (vs : List CoreView) (k : ℕ) → ((c : ℕ) → c < k → 0 < times c vs)
    → all_asked asked k ≤ weighed (asked-of asked) vs k
unfolding weighed
asked-weighed asked vs zero all = omega arith
asked-weighed asked vs (suc c) all =
    let i = asked-weighed asked vs c (λ d h. all d (omega (arith, h))) in
    let here = le-mul_of_pos_right (asked (Fetch c) + asked (Access c)) (all c (omega arith)) in
    omega (arith, i, here)

asked-seen : (y : CountedView) (vs : List CoreView) → CoresFit y vs
    → total (λ (v : CoreView). asked-of y.numbers.asked v.core) vs ≡ total asks_of vs
asked-seen y [] fits = refl
asked-seen y (v ∷ vs) fits =
    let i = asked-seen y vs fits.1 in let f = fits.0.fetch.asked in let a = fits.0.access.asked in omega (arith, i, f, a)

-- Each core's steps that moved something are within what all cores asked.
pub rest-paid : (x : MemoryView) (y : CountedView) (vs : List CoreView) → Keeps x y.memory → CoresFit y vs → IsPaid y.memory y.numbers
    → ((c : ℕ) → c < x.cores → 0 < times c vs) → IsTrue x.tells_load → (i : ℕ) (v : CoreView) → slice_get vs i ≡ Some v
    → v.moved ≤ steps_of_request x * total asks_of vs
rest-paid x y vs kept fits paid all told i v got =
    let P : ℕ → Type 0 = λ n. all_asked y.numbers.asked n ≤ total asks_of vs in
    let T : Bool → Type 0 = λ b. IsTrue b in
    let within : all_asked y.numbers.asked x.cores ≤ total asks_of vs =
    (let a = asked-weighed y.numbers.asked vs x.cores all in
    let b = weighed-total (asked-of y.numbers.asked) vs x.cores in
    let c = asked-seen y vs fits in omega (arith, a, b, c)) in
    let near = paid (subst T (sym kept.tells_load) told) v.core in
    let Q : ℕ → Type 0 = λ n. y.numbers.moved v.core + y.memory.load ≤ (4 * n + 3) * all_asked y.numbers.asked n in
    let here = subst Q kept.cores near in
    let more = mul-le-mul_left (4 * x.cores + 3) within in
    let moved = (AllByRecursion-slice_get (CoreFits y) vs i v fits got).moved in
    omega (arith, here, more, moved)
