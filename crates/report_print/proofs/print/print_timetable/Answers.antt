use Rattle.std.proofs.Common.{ℕ, List, get_or, None, ◌∙◌, ap, arith}
use Rattle.std.proofs.lemmas.List.{take_all}
use Rattle.std.proofs.lemmas.Result.{err_from_is_err_and}
use Rattle.kmp_base.specs.Rows.{text_of}
use Rattle.kmp_base.proofs.StreamLaws.{writes_as}
use Rattle.timetable.specs.declared.rows.TimeRow.{TimeRow}
use Rattle.report_rows.specs.Rows.{timed_row, rows_of_each}
use Rattle.report_print.proofs.TextLemmas.{one_row, each_next, each_cut, instruction_rows}
use Rattle.report_print.proofs.print.print_timetable.Goals as goal

-- the row that stands for one past the last
abbrev no_row : TimeRow
no_row = record { i = 0; f = 0; d = 0; e = 0; a = None; m = 0; w = None }

-- the row of an instruction, spelled
abbrev spelled : ℕ → List TimeRow → ℕ → List (List ℕ)
spelled core rows n = timed_row core n (get_or rows n no_row)

pub returns-in_err-put : goal.returns-in_err-put
returns-in_err-put g c =
    let p = err_from_is_err_and c.from_residual.result c.from_residual.ensures.1 in
    let rows = c.args.rows.now.rows in
    let row = rw c.as_slice.ensures.rows at c.timed.ensures.row in
    rw p.1 (each_cut (instruction_rows c.args.core) rows c.loop-n.n no_row (omega arith)
    (c.bytes.ensures.bytes ∙ row ∙ one_row (spelled c.args.core rows c.loop-n.n)) c.loop-n.invariant c.in_err-put.ensures.writes)

pub loop-n-preserved : goal.loop-n-preserved
loop-n-preserved g c =
    let rows = c.args.rows.now.rows in
    let row = rw c.as_slice.ensures.rows at c.timed.ensures.row in
    each_next (instruction_rows c.args.core) rows c.loop-n.n no_row (omega arith)
    (c.bytes.ensures.bytes ∙ row ∙ one_row (spelled c.args.core rows c.loop-n.n)) c.loop-n.invariant c.in_ok-put.ensures.writes

pub returns : goal.returns
returns g c =
    let rows = c.args.rows.now.rows in
    writes_as (ap (λ rows. text_of (rows_of_each (instruction_rows c.args.core) 0 rows)) (take_all c.loop-n.n rows (omega arith)))
    c.loop-n.invariant
