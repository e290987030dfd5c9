use Rattle.std.proofs.Common.{ap, arith}
use Rattle.access_log.specs.Items.{entries}
use Rattle.report_text.specs.Report.{ReportValue}
use Rattle.replayer.proofs.CoresLemmas.{so_far-more, so_far-differs}
use Rattle.replayer.proofs.cores.cores_difference.Goals as goal

pub returns-in-Some-clause-first : goal.returns-in-Some-clause-first
returns-in-Some-clause-first c =
    let report = c.args.report.now in
    so_far-differs c.in-Some.difference c.args.first_line report.setup report.image (entries report.items) report.cores c.args.machine.now
    c.loop-core.machine c.loop-core.line c.loop-core.core
    c.loop-core.invariant (omega (arith, ap (λ (r : ReportValue). r.setup.cores) c.report.view_is)) c.requires.cores c.in-Some.ensures.first

pub loop-core-preserved : goal.loop-core-preserved
loop-core-preserved c =
    let report = c.args.report.now in
    let m = c.in_default.ensures.moved in
    so_far-more c.args.first_line report.setup report.image (entries report.items) report.cores c.args.machine.now c.loop-core.machine
    c.core_difference.new.machine c.loop-core.line c.loop-core.core
    m.0 c.loop-core.invariant (omega (arith, ap (λ (r : ReportValue). r.setup.cores) c.report.view_is)) c.requires.cores m.1
    c.in_default.ensures.first
