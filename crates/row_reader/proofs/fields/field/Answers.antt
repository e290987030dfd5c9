use Rattle.std.proofs.Common.{◌≡◌, ℕ, List, [], ◌∷◌, Option, Some, None, ap, refl, sym, ◌∙◌}
use Rattle.std.proofs.lemmas.Fn.{says_at}
use Rattle.std.specs.Option.{option_copied}
use Rattle.row_reader.specs.Rows.{Row}
use Rattle.row_reader.specs.Fields.{part_at, parts_left, with_rest, field_at}
use Rattle.row_reader.proofs.fields.field.Goals as goal

field_of_part : {X : Type 0} (one : List ℕ → Option X) (row : Row) (text : List ℕ) (rest : Row) → part_at row ≡ Some (text, rest)
    → field_at one row ≡ with_rest (one text) rest
field_of_part one [] text rest e = absurd cc
field_of_part {X} one (part ∷ parts) text rest e =
    ap (λ (o : Option (List ℕ × Row)). elim o as (λ p. Option (X × Row)) [ None ↦ None | Some p ↦ with_rest (one p.0) p.1 ]) e

read_part : {X : Type 0} (one : List ℕ → Option X) (row : Row) (text : List ℕ) (rest : Row) (value : Option X)
    → part_at row ≡ Some (text, rest) → value ≡ one text → field_at one row ≡ with_rest value rest
read_part one row text rest value e is = field_of_part one row text rest e ∙ ap (λ o. with_rest o rest) (sym is)

pub returns-in_err-value-clause-read : goal.returns-in_err-value-clause-read
returns-in_err-value-clause-read g c = λ one is.
    rw c.from_residual-in_err-value.ensures
    (read_part one _ c.in_ok-text.text.now (parts_left (option_copied c.in_ok-text.rest)) None c.in_ok-text.ensures
    (is c.in_ok-text.text.now None (says_at g.F.Fn c.in_err-value.ensures refl)))

pub returns-clause-read : goal.returns-clause-read
returns-clause-read g c = λ one is.
    read_part one _ c.in_ok-text.text.now (parts_left (option_copied c.in_ok-text.rest)) (Some c.in_ok-value.value) c.in_ok-text.ensures
    (is c.in_ok-text.text.now (Some c.in_ok-value.value) (says_at g.F.Fn c.in_ok-value.ensures refl))

pub returns-clause-from : goal.returns-clause-from
returns-clause-from g c = (c.in_ok-text.text.now, says_at g.F.Fn c.in_ok-value.ensures refl)
