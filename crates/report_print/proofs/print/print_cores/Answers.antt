use Rattle.std.proofs.Common.{◌∙◌, ap, arith}
use Rattle.std.proofs.lemmas.List.{take_all}
use Rattle.std.proofs.lemmas.Result.{err_from_is_err_and}
use Rattle.kmp_base.specs.Rows.{text_of}
use Rattle.kmp_base.proofs.StreamLaws.{writes_as}
use Rattle.report_rows.specs.Ends.{end_value}
use Rattle.report_rows.specs.Rows.{rows_of_each, core_rows}
use Rattle.report_print.proofs.TextLemmas.{texts_are, each_next, each_cut, each_of_map, end_rows}
use Rattle.report_print.proofs.print.print_cores.Goals as goal

pub returns-in_err-put_rows : goal.returns-in_err-put_rows
returns-in_err-put_rows g c =
    let p = err_from_is_err_and c.from_residual.result c.from_residual.ensures.1 in
    let piece = texts_are _ _ c.core_end.ensures.rows ∙ ap (λ ended. text_of (end_rows c.loop-i.i ended)) c.index-cores-i.is in
    rw p.1 (writes_as (ap text_of (each_of_map core_rows end_value 0 c.args.cores.now))
    (each_cut end_rows c.args.cores.now c.loop-i.i _ (omega arith) piece c.loop-i.invariant c.in_err-put_rows.ensures))

pub loop-i-preserved : goal.loop-i-preserved
loop-i-preserved g c =
    let piece = texts_are _ _ c.core_end.ensures.rows ∙ ap (λ ended. text_of (end_rows c.loop-i.i ended)) c.index-cores-i.is in
    each_next end_rows c.args.cores.now c.loop-i.i _ (omega arith) piece c.loop-i.invariant c.in_ok-put_rows.ensures

pub returns : goal.returns
returns g c =
    let all = take_all c.loop-i.i c.args.cores.now (omega arith) in
    writes_as (ap (λ cores. text_of (rows_of_each end_rows 0 cores)) all
    ∙ ap text_of (each_of_map core_rows end_value 0 c.args.cores.now)) c.loop-i.invariant
