use Rattle.std.proofs.lemmas.Result.{err_from_is_err_and}
use Rattle.kmp_base.proofs.StreamLaws.{writes_then, writes_stop}
use Rattle.report_text.specs.Text.{report_rows, report_text}
use Rattle.report_print.proofs.TextLemmas.{text_of-append}
use Rattle.report_print.proofs.print.print_report.Goals as goal

pub returns-in_err-print_run : goal.returns-in_err-print_run
unfolding report_rows report_text
returns-in_err-print_run g c =
    let p = err_from_is_err_and c.from_residual.result c.from_residual.ensures.1 in
    rw (p.1, text_of-append, text_of-append) (record { writes = writes_stop _ (writes_stop _ c.in_err-print_run.ensures) })

pub returns-in_err-print_outcome : goal.returns-in_err-print_outcome
unfolding report_rows report_text
returns-in_err-print_outcome g c =
    let p = err_from_is_err_and c.from_residual-in_err-print_outcome.result c.from_residual-in_err-print_outcome.ensures.1 in
    rw (p.1, text_of-append, text_of-append)
    (record { writes = writes_stop _ (writes_then c.in_ok-print_run.ensures c.in_err-print_outcome.ensures) })

pub returns : goal.returns
unfolding report_rows report_text
returns g c =
    rw (text_of-append, text_of-append)
    (record { writes = writes_then (writes_then c.in_ok-print_run.ensures c.in_ok-print_outcome.ensures) c.put.ensures.writes })
