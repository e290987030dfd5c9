-- The cores of passes that are joined.
use Rattle.std.proofs.Common.{◌≡◌, ℕ, zero, suc, ◌<◌, List, [], ◌∷◌, length, Some, ap, arith, eq-eqb}
use Rattle.std.specs.Prelude.{slice_get}
use Rattle.std.proofs.lemmas.Option.{same_Some}
use Rattle.turn.specs.declared.views.CoreView.{CoreView}
use Rattle.turn.specs.Rule.{own_core, joined_cores, times}

-- A pass to which no other was joined speaks for its own core.
pub lone-cores : (vs : List CoreView) → 0 < length vs → joined_cores vs ≡ [] → vs ≡ own_core vs ∷ []
lone-cores [] some lone = absurd (omega (arith, some))
lone-cores (v ∷ vs) some lone = ap (λ l. v ∷ l) lone

-- A core that was seen is spoken for.
pub seen-times : (vs : List CoreView) (i : ℕ) (v : CoreView) → slice_get vs i ≡ Some v → 0 < times v.core vs
seen-times [] i v got = cc
seen-times (w ∷ vs) zero v got =
    let is = eq-eqb w.core v.core (ap (λ (z : CoreView). z.core) (same_Some w v got)) in rw is (omega arith)
seen-times (w ∷ vs) (suc i) v got = let more = seen-times vs i v got in omega (arith, more)
