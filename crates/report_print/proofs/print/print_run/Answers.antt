use Rattle.std.proofs.Common.{map, ap}
use Rattle.std.proofs.lemmas.Result.{err_from_is_err_and}
use Rattle.kmp_base.specs.Rows.{text_of}
use Rattle.kmp_base.proofs.StreamLaws.{writes_then, writes_stop, writes_as}
use Rattle.report_rows.specs.Rows.{item_row}
use Rattle.report_print.proofs.TextLemmas.{text_of-append, texts_are}
use Rattle.report_print.proofs.print.print_run.Goals as goal

pub returns-in_err-put_rows : goal.returns-in_err-put_rows
returns-in_err-put_rows g c =
    let p = err_from_is_err_and c.from_residual.result c.from_residual.ensures.1 in
    rw (p.1, ← c.report.view_is, text_of-append, text_of-append)
    (writes_stop _ (writes_stop _ (writes_as (texts_are _ _ c.header.ensures.rows) c.in_err-put_rows.ensures)))

pub returns-in_err-print_image : goal.returns-in_err-print_image
returns-in_err-print_image g c =
    let p = err_from_is_err_and c.from_residual-in_err-print_image.result c.from_residual-in_err-print_image.ensures.1 in
    rw (p.1, ← c.report.view_is, text_of-append, text_of-append)
    (writes_stop _ (writes_then (writes_as (texts_are _ _ c.header.ensures.rows) c.in_ok-put_rows.ensures)
    c.in_err-print_image.ensures))

pub returns : goal.returns
returns g c =
    rw (← c.report.view_is, text_of-append, text_of-append)
    (writes_then (writes_then (writes_as (texts_are _ _ c.header.ensures.rows) c.in_ok-put_rows.ensures) c.in_ok-print_image.ensures)
    (writes_as (ap (λ items. text_of (map item_row items)) c.items.ensures.items) c.print_history.ensures))
