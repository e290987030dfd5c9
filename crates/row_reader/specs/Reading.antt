-- Reading rows from the front: a value and the rows behind it, or the rows at which reading is stuck.
use Rattle.std.specs.Prelude.{ℕ, Bool, if◌then◌else◌, List, [], ◌∷◌, Option, Some, None, Result, Ok, Err}
use Rattle.kmp_base.specs.Bind.{◌>>=◌}
use Rattle.row_reader.specs.Rows.{Row, Rows}

-- the value of a row, and the rows behind it; stuck at the row where it has none
abbrev pub chosen : {X : Type 0} → Option X → Row → Rows → Result (X × Rows) Rows
chosen (Some x) row rows = Ok (x, rows)
chosen None row rows = Err (row ∷ rows)

-- the value that one reads of the next row
abbrev pub row_at : {X : Type 0} → (Row → Option X) → Rows → Result (X × Rows) Rows
row_at one [] = Err []
row_at one (row ∷ rows) = chosen (one row) row rows

-- The values of rows that pass a test, as long as such rows come. A number goes along: the first row
-- is read with low, and each one behind it with the number that follows from the value before it.
abbrev pub many_at : {X : Type 0} → (Row → Bool) → (ℕ → Row → Option X) → (X → ℕ) → ℕ → Rows → Result (List X × Rows) Rows
many_at test one next low [] = Ok ([], [])
many_at test one next low (row ∷ rows) =
    if test row
    then chosen (one low row) row rows >>= (λ p. many_at test one next (next p.0) rows >>= λ q. Ok (p.0 ∷ q.0, q.1))
    else Ok ([], row ∷ rows)

-- one value for each key of a list, in its order
abbrev pub each_at : {A X : Type 0} → (A → Rows → Result (X × Rows) Rows) → List A → Rows → Result (List X × Rows) Rows
each_at read [] rows = Ok ([], rows)
each_at read (a ∷ more) rows = read a rows >>= λ p. each_at read more p.1 >>= λ q. Ok (p.0 ∷ q.0, q.1)
