use Rattle.std.proofs.Common.{◌∙◌, arith}
use Rattle.std.proofs.lemmas.Result.{err_from_is_err_and}
use Rattle.report_rows.specs.Rows.{memory_row}
use Rattle.report_print.proofs.TextLemmas.{rows_next, rows_cut}
use Rattle.report_print.proofs.print.print_memory.Goals as goal

pub returns-in_err-put : goal.returns-in_err-put
returns-in_err-put g c =
    let p = err_from_is_err_and c.from_residual.result c.from_residual.ensures.1 in
    rw p.1 (rows_cut memory_row c.args.words.now c.loop-word.word-index _ (omega arith) (c.bytes.ensures.bytes ∙ c.memory.ensures.row)
    c.loop-word.invariant c.in_err-put.ensures.writes)

pub loop-word-preserved : goal.loop-word-preserved
loop-word-preserved g c =
    rows_next memory_row c.args.words.now c.loop-word.word-index _ (omega arith) (c.bytes.ensures.bytes ∙ c.memory.ensures.row)
    c.loop-word.invariant c.in_ok-put.ensures.writes
