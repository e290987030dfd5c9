use Rattle.std.proofs.Common.{map, ap}
use Rattle.std.proofs.lemmas.Result.{err_from_is_err_and}
use Rattle.kmp_base.specs.Rows.{text_of}
use Rattle.kmp_base.proofs.StreamLaws.{writes_then, writes_stop, writes_as}
use Rattle.report_rows.specs.Ends.{end_value}
use Rattle.report_rows.specs.Rows.{memory_row}
use Rattle.report_text.specs.Text.{rows_of_cores, rows_of_timetables}
use Rattle.report_print.proofs.TextLemmas.{text_of-append}
use Rattle.report_print.proofs.print.print_outcome.Goals as goal

pub returns-in_err-print_cores : goal.returns-in_err-print_cores
returns-in_err-print_cores g c =
    let p = err_from_is_err_and c.from_residual.result c.from_residual.ensures.1 in
    let cores = ap (λ ends. text_of (rows_of_cores 0 (map end_value ends))) c.deref.ensures.value in
    rw (p.1, ← c.report.view_is, text_of-append, text_of-append, text_of-append)
    (writes_stop _ (writes_stop _ (writes_stop _ (writes_as cores c.in_err-print_cores.ensures))))

pub returns-in_err-print_memory : goal.returns-in_err-print_memory
returns-in_err-print_memory g c =
    let p = err_from_is_err_and c.from_residual-in_err-print_memory.result c.from_residual-in_err-print_memory.ensures.1 in
    let cores = ap (λ ends. text_of (rows_of_cores 0 (map end_value ends))) c.deref.ensures.value in
    let words = ap (λ words. text_of (map memory_row words)) c.deref-2.ensures.value in
    rw (p.1, ← c.report.view_is, text_of-append, text_of-append, text_of-append)
    (writes_stop _ (writes_stop _ (writes_then (writes_as cores c.in_ok-print_cores.ensures)
    (writes_as words c.in_err-print_memory.ensures))))

pub returns-in_err-print_timetables : goal.returns-in_err-print_timetables
returns-in_err-print_timetables g c =
    let p = err_from_is_err_and c.from_residual-in_err-print_timetables.result c.from_residual-in_err-print_timetables.ensures.1 in
    let cores = ap (λ ends. text_of (rows_of_cores 0 (map end_value ends))) c.deref.ensures.value in
    let words = ap (λ words. text_of (map memory_row words)) c.deref-2.ensures.value in
    let times = ap (λ ends. text_of (rows_of_timetables 0 (map end_value ends))) c.deref-3.ensures.value in
    rw (p.1, ← c.report.view_is, text_of-append, text_of-append, text_of-append)
    (writes_stop _ (writes_then (writes_then (writes_as cores c.in_ok-print_cores.ensures) (writes_as words c.in_ok-print_memory.ensures))
    (writes_as times c.in_err-print_timetables.ensures)))

pub returns : goal.returns
returns g c =
    let cores = ap (λ ends. text_of (rows_of_cores 0 (map end_value ends))) c.deref.ensures.value in
    let words = ap (λ words. text_of (map memory_row words)) c.deref-2.ensures.value in
    let times = ap (λ ends. text_of (rows_of_timetables 0 (map end_value ends))) c.deref-3.ensures.value in
    rw (← c.report.view_is, text_of-append, text_of-append, text_of-append)
    (writes_then (writes_then (writes_then (writes_as cores c.in_ok-print_cores.ensures) (writes_as words c.in_ok-print_memory.ensures))
    (writes_as times c.in_ok-print_timetables.ensures)) c.print_counts.ensures)
