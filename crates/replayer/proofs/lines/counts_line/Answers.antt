use Rattle.std.proofs.Common.{◌≡◌, ℕ, ◌∙◌, List, map, ap, arith}
use Rattle.timetable.specs.declared.CoreEnd.{CoreEnd}
use Rattle.report_rows.specs.Ends.{end_value}
use Rattle.report_text.specs.Report.{ReportValue}
use Rattle.replayer.proofs.LineLemmas.{timed_count, rows_left, timed_count_told, timetables_line_is, counts_line_is, last_line}
use Rattle.replayer.proofs.lines.counts_line.Goals as goal

-- the cores of a report have as many rows as its timetables
rows_are : (report : ReportValue) (n : ℕ) (given ends : List CoreEnd) → n ≡ rows_left given → given ≡ ends
    → map end_value ends ≡ report.cores
    → n ≡ timed_count report.cores
rows_are report n given ends is same told = is ∙ ap rows_left same ∙ timed_count_told ends ∙ ap timed_count told

pub overflow_cast-result : goal.overflow_cast-result
overflow_cast-result c =
    let report = c.args.report.now in
    let rows = rows_are report c.timetable_rows.result c.deref.result.now c.report.inside.cores.items c.timetable_rows.ensures.rows
    c.deref.ensures.value (ap (λ (r : ReportValue). r.cores) c.report.view_is) in
    omega (arith, rows, counts_line_is report, last_line report)

pub overflow_add-result : goal.overflow_add-result
overflow_add-result c =
    let report = c.args.report.now in
    let rows = rows_are report c.timetable_rows.result c.deref.result.now c.report.inside.cores.items c.timetable_rows.ensures.rows
    c.deref.ensures.value (ap (λ (r : ReportValue). r.cores) c.report.view_is) in
    omega (arith, rows, c.timetables_line.ensures, timetables_line_is report, counts_line_is report, last_line report)

pub returns : goal.returns
returns c =
    let report = c.args.report.now in
    let rows = rows_are report c.timetable_rows.result c.deref.result.now c.report.inside.cores.items c.timetable_rows.ensures.rows
    c.deref.ensures.value (ap (λ (r : ReportValue). r.cores) c.report.view_is) in
    omega (arith, rows, c.timetables_line.ensures, timetables_line_is report, counts_line_is report)
