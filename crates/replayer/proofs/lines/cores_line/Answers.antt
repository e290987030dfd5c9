use Rattle.std.proofs.Common.{length, ap, arith}
use Rattle.report_text.specs.Report.{ReportValue}
use Rattle.replayer.proofs.LineLemmas.{cores_line_is, words_line_is, counts_line_is, last_line}
use Rattle.replayer.proofs.lines.cores_line.Goals as goal

pub overflow_add-result : goal.overflow_add-result
overflow_add-result c =
    let report = c.args.report.now in
    omega (
      arith,
      ap (λ (r : ReportValue). length r.items) c.report.view_is,
      cores_line_is report,
      words_line_is report,
      counts_line_is report,
      last_line report,
    )
