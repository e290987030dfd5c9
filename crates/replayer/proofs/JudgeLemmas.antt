-- The first difference of lists of judgments: of one behind another, and of one from an index on.
use Rattle.std.proofs.Common.{◌≡◌, ℕ, ◌+◌, ◌/◌, ◌<◌, ◌≤◌, Bool, true, false, cond, List, [], ◌∷◌, ◌++◌, drop, map, Option, Some, None}
use Rattle.std.proofs.Common.{refl, sym, ap, ◌∙◌, arith}
use Rattle.std.specs.List.{range_with_len, slice_index}
use Rattle.std.proofs.lemmas.List.{at_drop_more, drop_all}
use Rattle.std.proofs.lemmas.List.FromFn.{get_or-map-range_with_len, length-map-range_with_len}
use Rattle.access_log.specs.declared.field.Field.TheVariants as fields
use Rattle.row_check.specs.declared.difference.Difference.{Difference}
use Rattle.row_check.specs.Judgments.{Judgment, told, number, word, first_told}

abbrev step : Judgment → List Judgment → Bool → Option Difference
step judgment more same = cond same (first_told more) (Some (told judgment))

behind : (j : Judgment) (a b : List Judgment) (same : Bool) → j.same ≡ same → step j a same ≡ None
    → (first_told a ≡ None → first_told (a ++ b) ≡ first_told b) → step j (a ++ b) j.same ≡ first_told b
behind j a b true is e more = ap (step j (a ++ b)) is ∙ more e
behind j a b false is e more = absurd cc

-- where the first list has no difference, that of the second is the first
pub first_behind : (a b : List Judgment) → first_told a ≡ None → first_told (a ++ b) ≡ first_told b
first_behind [] b e = refl
first_behind (j ∷ a) b e = behind j a b j.same refl e (first_behind a b)

before : (j : Judgment) (a b : List Judgment) (difference : Difference) (same : Bool) → j.same ≡ same → step j a same ≡ Some difference
    → (first_told a ≡ Some difference → first_told (a ++ b) ≡ Some difference) → step j (a ++ b) j.same ≡ Some difference
before j a b difference true is e more = ap (step j (a ++ b)) is ∙ more e
before j a b difference false is e more = ap (step j (a ++ b)) is ∙ e

-- where the first list has one, it is the first
pub first_before : (a b : List Judgment) (difference : Difference) → first_told a ≡ Some difference → first_told (a ++ b) ≡ Some difference
first_before [] b difference e = absurd cc
first_before (j ∷ a) b difference e = before j a b difference j.same refl e (first_before a b difference)

-- ---- one judgment for each number below n

abbrev pub each_judged : (ℕ → Judgment) → ℕ → List Judgment
each_judged judged n = map judged (range_with_len 0 n)

each_at : (judged : ℕ → Judgment) (n i : ℕ) → i < n
    → first_told (drop i (each_judged judged n)) ≡ step (judged i) (drop (i + 1) (each_judged judged n)) (judged i).same
each_at judged n i below =
    at_drop_more first_told (each_judged judged n) i (judged i) (omega (arith, length-map-range_with_len judged 0 n))
    ∙ ap (λ (j : Judgment). step j (drop (i + 1) (each_judged judged n)) j.same)
    (get_or-map-range_with_len judged 0 n i i (judged i) below (omega arith))

-- those below an index are as due
abbrev pub AreSame : (ℕ → Judgment) → ℕ → ℕ → Type 0
AreSame judged n i = first_told (drop i (each_judged judged n)) ≡ first_told (each_judged judged n)

-- and so is the one there
pub each_same : (judged : ℕ → Judgment) (n i : ℕ) → i < n → (judged i).same ≡ true → AreSame judged n i → AreSame judged n (i + 1)
each_same judged n i below same so_far =
    sym (each_at judged n i below ∙ ap (step (judged i) (drop (i + 1) (each_judged judged n))) same) ∙ so_far

-- or it is the first that isn't
pub each_differs : (judged : ℕ → Judgment) (n i : ℕ) → i < n → (judged i).same ≡ false → AreSame judged n i
    → Some (told (judged i)) ≡ first_told (each_judged judged n)
each_differs judged n i below differs so_far =
    sym (each_at judged n i below ∙ ap (step (judged i) (drop (i + 1) (each_judged judged n))) differs) ∙ so_far

-- or there is none
pub each_done : (judged : ℕ → Judgment) (n i : ℕ) → n ≤ i → AreSame judged n i → None ≡ first_told (each_judged judged n)
each_done judged n i done so_far =
    sym (ap first_told (drop_all i (each_judged judged n) (omega (arith, length-map-range_with_len judged 0 n)))) ∙ so_far

-- numbers, one in a row
abbrev pub count_at : ℕ → List ℕ → List ℕ → ℕ → Judgment
count_at line kept due i = number (line + i) fields.Count (slice_index kept i) (slice_index due i)

-- registers, eight in a row
abbrev pub register_at : ℕ → List ℕ → List ℕ → ℕ → Judgment
register_at line kept due i = word (line + i / 8) fields.Register (slice_index kept i) (slice_index due i)
