use Rattle.std.proofs.Common.{◌∷◌, codes, ap, ◌∙◌}
use Rattle.std.specs.Option.{option_copied}
use Rattle.row_reader.specs.Rows.{Row, rows_of}
use Rattle.row_reader.specs.Fields.{parts_left}
use Rattle.report_row_reader.proofs.TimedLaws.{other_key, behind_key}
use Rattle.report_row_reader.proofs.read.timed_parts.Goals as goal

pub returns-in_err-stages-clause-none : goal.returns-in_err-stages-clause-none
returns-in_err-stages-clause-none c =
    let parts = parts_left (option_copied c.in_ok-parts.parts) in
    let none = rw c.from.ensures at c.in_err-stages.ensures in
    rw (c.from_residual-in_err-stages.ensures, c.in_ok-parts.ensures.some) (other_key c.args.core parts none)

pub returns-clause-some : goal.returns-clause-some
returns-clause-some c =
    let parts = parts_left (option_copied c.in_ok-parts.parts) in
    let found = rw c.from.ensures at c.in_ok-stages.ensures in
    c.in_ok-parts.ensures.some
    ∙ ap (λ (r : Row). (codes "T" ∷ r) ∷ rows_of c.in_ok-parts.behind.now) (behind_key c.args.core parts _ _ found)
