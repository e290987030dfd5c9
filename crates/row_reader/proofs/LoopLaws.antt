-- Reading rows one after another, as a loop does. The values that were read before stand in front.
use Rattle.std.proofs.Common.{◌≡◌, ℕ, Bool, true, List, [], ◌∷◌, ◌++◌, Option, Some, None, Result, Ok, Err, refl, ap}
use Rattle.std.specs.Borrow.{Bor}
use Rattle.kmp_base.specs.declared.fault.Fault.{Fault}
use Rattle.kmp_base.proofs.ReadingLaws.{with_front_and_rest, all_read_and_rest, first_and_more, first_is_read, first_fails}
use Rattle.row_reader.specs.Rows.{Row, Rows}
use Rattle.row_reader.specs.Fields.{IsCutOff}
use Rattle.row_reader.specs.Reading.{chosen, row_at, many_at, each_at}
use Rattle.row_reader.specs.Gives.{stuck_rows, Fails}

-- no row is read where the first isn't whole
pub cut_off : {X : Type 0} (one : Row → Option X) (rows : Rows) → one [] ≡ None → IsCutOff rows → row_at one rows ≡ Err rows
cut_off one [] none cut = refl
cut_off one ([] ∷ more) none cut = ap (λ o. chosen o [] more) none
cut_off one ((part ∷ parts) ∷ more) none cut = absurd cut

-- ---- rows that pass a test

-- where such a row comes next and has a value, the others are still read
pub many_go_on : {X : Type 0} (test : Row → Bool) (one : ℕ → Row → Option X) (next : X → ℕ) (low : ℕ) (rows : Rows) (front : List X)
    (total : Result (List X × Rows) Rows) (row : Row) (rest : Rows) (x : X)
    → rows ≡ row ∷ rest → test row ≡ true → one low row ≡ Some x → with_front_and_rest front (many_at test one next low rows) ≡ total
    → with_front_and_rest (front ++ x ∷ []) (many_at test one next (next x) rest) ≡ total
many_go_on test one next low rows front total row rest x are passes is so_far =
    first_is_read (λ p. p.0 ∷ []) (chosen (Some x) row rest) (λ p. many_at test one next (next p.0) p.1)
    (many_at test one next low rows) total front (x, rest) (rw (are, passes, is) refl) refl so_far

-- ---- one value for each of a list

module _ {A X : Type 0} (read : A → Rows → Result (X × Rows) Rows) (keys : List A) (rows : Rows) (front : List X)
    (total : Result (List X × Rows) Rows) (so_far : with_front_and_rest front (each_at read keys rows) ≡ total) where
  pub each_done : keys ≡ [] → total ≡ Ok (front, rows)
  each_done none = all_read_and_rest front rows total (rw none at so_far)

  module _ (key : A) (others : List A) (are : keys ≡ key ∷ others) where
    each_first : each_at read keys rows ≡ first_and_more (λ p. p.0 ∷ []) (read key rows) (λ p. each_at read others p.1)
    each_first = rw are refl

    pub each_go_on : (x : X) (rest : Rows) → read key rows ≡ Ok (x, rest)
        → with_front_and_rest (front ++ x ∷ []) (each_at read others rest) ≡ total
    each_go_on x rest is =
        first_is_read (λ p. p.0 ∷ []) (read key rows) (λ p. each_at read others p.1) _ total front (x, rest) each_first is so_far

    pub each_fail : (stuck : Fault (Bor (List ℕ))) → Fails stuck (read key rows) → Fails stuck total
    each_fail stuck fails =
        first_fails stuck_rows stuck (λ p. p.0 ∷ []) (read key rows) (λ p. each_at read others p.1) _ total front each_first fails so_far
