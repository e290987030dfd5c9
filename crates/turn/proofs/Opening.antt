-- How the seat of a new lock, which speaks for all cores, is split among their passes.
use Rattle.std.proofs.Common.{◌≡◌, ℕ, zero, suc, ◌+◌, ◌<◌, List, [], ◌∷◌, Some, None, inl, sym, refl, ap, ◌∙◌, subst, arith}
use Rattle.std.specs.Prelude.{slice_get}
use Rattle.atomic_table.specs.Seated.{TableId}
use Rattle.atomic_table.specs.Table.{Me}
use Rattle.mem_port.specs.declared.memory.MemoryCore.{Ghosts}
use Rattle.mem_port.specs.Memory.{MemoryView}
use Rattle.mem_port.specs.Side.{SideStays, side_of}
use Rattle.turn.specs.declared.views.PortView.{PortView}
use Rattle.turn.specs.declared.views.CoreView.{CoreView}
use Rattle.turn.specs.declared.views.PassView.{PassView}
use Rattle.turn.specs.declared.counted.Counted.{Counted}
use Rattle.turn.specs.declared.pass.Turn.{Turn}
use Rattle.turn.specs.declared.pass.Pass.{Pass}
use Rattle.turn.specs.Numbers.{no_numbers}
use Rattle.turn.specs.Views.{CountedView, counted, core_view, side_in}
use Rattle.turn.specs.Rule.{own_core, cores_from, pass_view, no_counts, counts_of, left_of, right_of, opening_view}
use Rattle.turn.specs.Holding.{IsResting}
use Rattle.turn.specs.Passes.{first_view, IsFirst}
use Rattle.turn.proofs.CoreLaws.{port-view}

pub none-in : {X : Type 0} (xs : List X) (i : ℕ) (x : X) → xs ≡ [] → slice_get xs i ≡ Some x → ⊥
none-in [] i x e got = cc
none-in (y ∷ xs) i x e got = cc

module _ {S : Type 0} (o : S) (x : CountedView) where
  -- The seat speaks for so many cores from one on.
  abbrev pub Waits : ℕ → ℕ → Me S (PassView S) → Type 0
  Waits c n me = me ≡ (pass_view (Some o) None (cores_from x c n) no_counts, [])

  pub waits-rests : (c n : ℕ) (me : Me S (PassView S)) → Waits c (suc n) me → IsResting c me
  waits-rests c n me is =
      let P : Me S (PassView S) → Type 0 = λ z. IsResting c z in
      subst P (sym is) record { empty = refl; idle = refl; some_core = omega arith; named = refl }

  -- Behind a split one core fewer is left.
  pub waits-left : (c n : ℕ) (me left : Me S (PassView S)) → Waits c (suc n) me → 0 < n → left ≡ (left_of me.0, [])
      → (m : ℕ) × ((suc m ≡ n) × Waits (c + 1) (suc m) left)
  waits-left c zero me left is pos e = absurd (omega arith)
  waits-left c (suc m) me left is pos e =
      let k : suc c ≡ c + 1 = omega arith in (
        m,
        (
          refl,
          e ∙ (ap (λ (v : Me S (PassView S)). (left_of v.0, [])) is
              ∙ ap (λ (j : ℕ). (pass_view (Some o) None (cores_from x j (suc m)) no_counts, [])) k),
        ),
      )

  pub split-view : (c n : ℕ) (me given : Me S (PassView S)) → Waits c (suc n) me → given ≡ (right_of me.0, [])
      → given.0 ≡ pass_view (Some o) None (core_view x c ∷ []) no_counts
  split-view c n me given is e = ap (λ (v : Me S (PassView S)). v.0) e ∙ ap (λ (v : Me S (PassView S)). right_of v.0) is

  pub last-view : (c n : ℕ) (me : Me S (PassView S)) → Waits c (suc n) me → n ≡ 0
      → me.0 ≡ pass_view (Some o) None (core_view x c ∷ []) no_counts
  last-view c n me is e = ap (λ (v : Me S (PassView S)). v.0) is
      ∙ ap (λ (k : ℕ). pass_view (Some o) None (core_view x c ∷ cores_from x (suc c) k) no_counts) e

-- The seat of a new lock speaks for all cores.
pub waits-all : {S : Type 0} (o : S) (seen : S → CountedView) (x : CountedView) (n : ℕ) (me : Me S (PassView S)) → seen o ≡ x
    → x.memory.cores ≡ n → 0 < n → me ≡ (opening_view seen o, []) → (k : ℕ) × ((0 + suc k ≡ n) × Waits o x 0 (suc k) me)
waits-all o seen x zero me same cores some is = absurd (omega (arith, some))
waits-all {S} o seen x (suc k) me same cores some is = (
  k,
  (
    omega arith,
    is
        ∙ (ap (λ (z : CountedView). (pass_view (Some o) None (cores_from z 0 z.memory.cores) no_counts, [])) same
        ∙ ap (λ (j : ℕ). (pass_view (Some o) None (cores_from x 0 j) no_counts, [])) cores),
  ),
)

first-side : (m : MemoryView) (core : ℕ) → SideStays core (side_of m core) (side_in m (core_view (counted m no_numbers) core))
first-side m core = record {
  kept = record { image = refl; cores = refl; tells_distances = refl; bound = refl };
  ports = λ q e. inl (ap (λ (v : PortView). v.state) (port-view (counted m no_numbers) core q e));
  asks = λ q e. ap (λ (v : PortView). v.asks_left) (port-view (counted m no_numbers) core q e);
  taken = refl;
}

-- The seat of a core's first pass, and the pass's number.
abbrev pub IsFirstSeat : {M : Type 0} {g : Ghosts M} → Turn M g → ℕ → TableId → ℕ → PassView (Counted M g) → Type 0
IsFirstSeat turn core table number view =
    (table ≡ turn.lock.table.shared.table_id) × ((number ≡ core)
    × (view ≡ pass_view (Some turn.lock.table.shared.key.value) None (core_view (counted (first_view turn) no_numbers) core ∷ [])
    no_counts))

pub first-pass : {M : Type 0} {g : Ghosts M} (turn : Turn M g) (core : ℕ) (pass : Pass M g)
    → IsFirstSeat turn core pass.seat.table_id pass.core pass.seat.me.0 → IsFirst turn core pass
first-pass {M} {g} turn core pass is =
    let Side : CoreView → Type 0 = λ v. SideStays core (side_of (first_view turn) core) (side_in (first_view turn) v) in
    let own : own_core pass.seat.me.0.cores ≡ core_view (counted (first_view turn) no_numbers) core =
    ap (λ (v : PassView (Counted M g)). own_core v.cores) is.1.1 in record {
      turn_is = record { table = is.0; origin = ap (λ (v : PassView (Counted M g)). v.origin) is.1.1 };
      core_is = is.1.0;
      cores = ap (λ (v : PassView (Counted M g)). v.cores) is.1.1;
      side_is = subst Side (sym own) (first-side (first_view turn) core);
      none_counted = ap (λ (v : PassView (Counted M g)). counts_of v) is.1.1;
    }
