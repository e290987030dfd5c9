use Rattle.std.proofs.Common.{◌∙◌, sym, arith}
use Rattle.std.proofs.lemmas.Fmt.{decimal_injective}
use Rattle.row_reader.proofs.FieldLaws.{field_is, field_none}
use Rattle.row_reader.proofs.NumberLaws.{number_field}
use Rattle.row_reader.proofs.fields.number_of.Goals as goal

pub returns-in-Some-clause-found : goal.returns-in-Some-clause-found
returns-in-Some-clause-found c =
    sym (field_is _ _ _ (number_field c.args.limit (omega arith)) c.args.text.now c.in-Some.n (omega arith) c.in-Some.ensures.value)

-- a number past the limit
pub returns-in_default-clause-found : goal.returns-in_default-clause-found
returns-in_default-clause-found c =
    sym (field_none _ _ _ (number_field c.args.limit (omega arith)) c.args.text.now (λ n le e.
    let same = decimal_injective c.in-Some.n n (omega arith) (omega arith) (sym c.in-Some.ensures.value ∙ e) in
    omega arith))

-- no number
pub returns-in_default-2-clause-found : goal.returns-in_default-2-clause-found
returns-in_default-2-clause-found c =
    sym (field_none _ _ _ (number_field c.args.limit (omega arith)) c.args.text.now
    (λ n le e. c.in_default.ensures.value n (omega arith) e))
