use Rattle.std.proofs.Common.{ap, arith}
use Rattle.report_text.specs.Report.{ReportValue}
use Rattle.replayer.proofs.LineLemmas.{words_line_behind}
use Rattle.replayer.proofs.lines.words_line.Goals as goal

pub overflow_cast-result : goal.overflow_cast-result
overflow_cast-result c =
    let line = words_line_behind c.args.report.now c.report.inside.cores.items (ap (λ (r : ReportValue). r.cores) c.report.view_is) in
    omega (arith, line.0, line.1)

pub overflow_mul-result : goal.overflow_mul-result
overflow_mul-result c =
    let line = words_line_behind c.args.report.now c.report.inside.cores.items (ap (λ (r : ReportValue). r.cores) c.report.view_is) in
    omega (arith, line.0, line.1)

pub overflow_add-result : goal.overflow_add-result
overflow_add-result c =
    let line = words_line_behind c.args.report.now c.report.inside.cores.items (ap (λ (r : ReportValue). r.cores) c.report.view_is) in
    omega (arith, line.0, line.1)

pub returns : goal.returns
returns c =
    let line = words_line_behind c.args.report.now c.report.inside.cores.items (ap (λ (r : ReportValue). r.cores) c.report.view_is) in
    omega (arith, line.0)
