-- The first row of a text, read.
use Rattle.std.proofs.Common.{◌≡◌, ◌∷◌, Option, Some, None, Ok, Err, sym, ap, ◌∙◌}
use Rattle.row_reader.specs.Rows.{Row, Rows}
use Rattle.row_reader.specs.Reading.{chosen, row_at}

pub row_found : {X : Type 0} (one : Row → Option X) (rows : Rows) (row : Row) (rest : Rows) (x : X) → rows ≡ row ∷ rest → Some x ≡ one row
    → row_at one rows ≡ Ok (x, rest)
row_found one rows row rest x are is = ap (row_at one) are ∙ ap (λ o. chosen o row rest) (sym is)

pub row_stuck : {X : Type 0} (one : Row → Option X) (rows : Rows) (row : Row) (rest : Rows) → rows ≡ row ∷ rest → None ≡ one row
    → row_at one rows ≡ Err rows
row_stuck one rows row rest are is = ap (row_at one) are ∙ ap (λ o. chosen o row rest) (sym is) ∙ ap (λ rs. Err rs) (sym are)
