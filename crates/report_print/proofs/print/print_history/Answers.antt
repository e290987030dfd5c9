use Rattle.std.proofs.Common.{◌∙◌, arith}
use Rattle.std.proofs.lemmas.Result.{err_from_is_err_and}
use Rattle.report_rows.specs.Rows.{item_row}
use Rattle.report_print.proofs.TextLemmas.{rows_next, rows_cut}
use Rattle.report_print.proofs.print.print_history.Goals as goal

pub returns-in_err-put : goal.returns-in_err-put
returns-in_err-put g c =
    let p = err_from_is_err_and c.from_residual.result c.from_residual.ensures.1 in
    rw p.1 (rows_cut item_row c.args.items.now c.loop-item.item-index _ (omega arith) (c.bytes.ensures.bytes ∙ c.item.ensures.row)
    c.loop-item.invariant c.in_err-put.ensures.writes)

pub loop-item-preserved : goal.loop-item-preserved
loop-item-preserved g c =
    rows_next item_row c.args.items.now c.loop-item.item-index _ (omega arith) (c.bytes.ensures.bytes ∙ c.item.ensures.row)
    c.loop-item.invariant c.in_ok-put.ensures.writes
