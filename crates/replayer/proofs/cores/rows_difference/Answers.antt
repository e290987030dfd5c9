use Rattle.std.proofs.Common.{◌+◌, sym}
use Rattle.report_rows.specs.Ends.{end_value}
use Rattle.replayer.specs.Lists.{registers_judged}
use Rattle.replayer.specs.Cores.{end_judged}
use Rattle.replayer.proofs.JudgeLemmas.{first_before}
use Rattle.replayer.proofs.cores.rows_difference.Goals as goal

pub returns-in-Some : goal.returns-in-Some
returns-in-Some c =
    let there = c.args.there.now in
    let kept = c.args.kept.now in
    sym (first_before (end_judged c.args.line c.args.budget (end_value kept) c.args.timing.now there c.args.next.now)
    (registers_judged (c.args.line + 1) kept.state.regs there.state.regs) c.in-Some.difference (sym c.in-Some.ensures))
