use Rattle.std.proofs.lemmas.Result.{err_from_is_err_and}
use Rattle.kmp_base.proofs.StreamLaws.{writes_then, writes_stop, writes_as}
use Rattle.report_print.proofs.TextLemmas.{text_of-append, texts_are}
use Rattle.report_print.proofs.print.print_counts.Goals as goal

pub returns-in_err-put_rows : goal.returns-in_err-put_rows
returns-in_err-put_rows g c =
    let p = err_from_is_err_and c.from_residual.result c.from_residual.ensures.1 in
    rw (p.1, text_of-append, text_of-append)
    (writes_stop _ (writes_stop _ (writes_as (texts_are _ _ c.access_counts.ensures.rows) c.in_err-put_rows.ensures)))

pub returns-in_err-put_rows-2 : goal.returns-in_err-put_rows-2
returns-in_err-put_rows-2 g c =
    let p = err_from_is_err_and c.from_residual-in_err-put_rows-2.result c.from_residual-in_err-put_rows-2.ensures.1 in
    rw (p.1, text_of-append, text_of-append)
    (writes_stop _ (writes_then (writes_as (texts_are _ _ c.access_counts.ensures.rows) c.in_ok-put_rows.ensures)
    (writes_as (texts_are _ _ c.bus_counts.ensures.rows) c.in_err-put_rows-2.ensures)))

pub returns : goal.returns
returns g c =
    rw (text_of-append, text_of-append)
    (writes_then (writes_then (writes_as (texts_are _ _ c.access_counts.ensures.rows) c.in_ok-put_rows.ensures)
    (writes_as (texts_are _ _ c.bus_counts.ensures.rows) c.in_ok-put_rows-2.ensures))
    (writes_as (texts_are _ _ c.wait_counts.ensures.rows) c.put_rows-3.ensures))
