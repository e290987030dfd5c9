use Rattle.std.proofs.Common.{◌∙◌, arith}
use Rattle.std.proofs.lemmas.Result.{err_from_is_err_and}
use Rattle.kmp_base.proofs.StreamLaws.{writes_cut}
use Rattle.report_print.proofs.print.put_rows.Goals as goal

pub returns-in_err-put : goal.returns-in_err-put
returns-in_err-put g c =
    let p = err_from_is_err_and c.from_residual.result c.from_residual.ensures.1 in
    rw p.1 (writes_cut (λ row. row) c.args.rows.now c.loop-row.row-index _ (omega arith) (c.bytes.ensures.bytes ∙ c.row-item.is)
    c.loop-row.invariant c.in_err-put.ensures.writes)
