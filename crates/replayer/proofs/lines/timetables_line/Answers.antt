use Rattle.std.proofs.Common.{length, ap, arith}
use Rattle.report_text.specs.Report.{ReportValue}
use Rattle.replayer.proofs.LineLemmas.{counts_line_is, last_line}
use Rattle.replayer.proofs.lines.timetables_line.Goals as goal

pub overflow_cast-result : goal.overflow_cast-result
overflow_cast-result c =
    let report = c.args.report.now in
    omega (arith, ap (λ (r : ReportValue). length r.words) c.report.view_is, counts_line_is report, last_line report)

pub overflow_add-result : goal.overflow_add-result
overflow_add-result c =
    let report = c.args.report.now in
    omega (arith, ap (λ (r : ReportValue). length r.words) c.report.view_is, counts_line_is report, last_line report)
