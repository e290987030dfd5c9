-- Lists of a value for each key, of the same bounds.
use Rattle.std.proofs.Common.{◌≡◌, suc, List, [], ◌∷◌, length, refl, ap, arith}
use Rattle.std.specs.List.{AllByRecursion}
use Rattle.row_reader.specs.Starts.{EachFits}

pub all_each : {A X : Type 0} (P : X → Type 0) (keys : List A) (xs : List X) → EachFits (λ (key : A). P) keys xs → (length xs ≡ length keys)
    × AllByRecursion P xs
all_each P [] [] h = (refl, tt)
all_each P [] (x ∷ xs) h = absurd h
all_each P (key ∷ keys) [] h = absurd h
all_each P (key ∷ keys) (x ∷ xs) h = let others = all_each P keys xs h.1 in (ap suc others.0, (h.0, others.1))

pub each_all : {A X : Type 0} (P : X → Type 0) (keys : List A) (xs : List X) → length xs ≡ length keys → AllByRecursion P xs
    → EachFits (λ (key : A). P) keys xs
each_all P [] [] long h = tt
each_all P [] (x ∷ xs) long h = absurd (omega (arith, long))
each_all P (key ∷ keys) [] long h = absurd (omega (arith, long))
each_all P (key ∷ keys) (x ∷ xs) long h = (h.0, each_all P keys xs (omega (arith, long)) h.1)
