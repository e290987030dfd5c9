use Rattle.std.proofs.Common.{refl, ◌∙◌, ap, arith}
use Rattle.std.proofs.lemmas.List.{take_all}
use Rattle.std.proofs.lemmas.Result.{err_from_is_err_and}
use Rattle.kmp_base.specs.Rows.{text_of}
use Rattle.kmp_base.proofs.StreamLaws.{writes_as}
use Rattle.report_rows.specs.Ends.{EndValue, end_value}
use Rattle.report_rows.specs.Rows.{rows_of_each, timetable_rows}
use Rattle.report_print.proofs.TextLemmas.{each_next, each_cut, each_of_map, times_of}
use Rattle.report_print.proofs.print.print_timetables.Goals as goal

pub returns-in_err-print_timetable : goal.returns-in_err-print_timetable
returns-in_err-print_timetable g c =
    let p = err_from_is_err_and c.from_residual.result c.from_residual.ensures.1 in
    rw p.1 (writes_as (ap text_of (each_of_map (λ n (ended : EndValue). timetable_rows n ended.rows) end_value 0 c.args.cores.now))
    (each_cut times_of c.args.cores.now c.loop-i.i c.index-cores-i.result (omega arith) refl c.loop-i.invariant
    c.in_err-print_timetable.ensures))

pub loop-i-preserved : goal.loop-i-preserved
loop-i-preserved g c =
    each_next times_of c.args.cores.now c.loop-i.i c.index-cores-i.result (omega arith) refl c.loop-i.invariant
    c.in_ok-print_timetable.ensures

pub returns : goal.returns
returns g c =
    let all = take_all c.loop-i.i c.args.cores.now (omega arith) in
    writes_as (ap (λ cores. text_of (rows_of_each times_of 0 cores)) all
    ∙ ap text_of (each_of_map (λ n (ended : EndValue). timetable_rows n ended.rows) end_value 0 c.args.cores.now)) c.loop-i.invariant
