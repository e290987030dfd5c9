use Rattle.std.proofs.Common.{ap}
use Rattle.replayer.specs.declared.Verdict.TheVariants.{Differs}
use Rattle.replayer.proofs.OnlyLaws.{one_difference}
use Rattle.replayer.proofs.CheckLaws.{different_is_wrong}
use Rattle.replayer.proofs.check.Goals as goal

pub returns-in-None-clause-only : goal.returns-in-None-clause-only
returns-in-None-clause-only c difference is =
    absurd (different_is_wrong c.args.report.now difference c.requires.form is (rw c.in-None.is at c.in_ok-told.ensures.none))

pub returns-clause-agrees : goal.returns-clause-agrees
returns-clause-agrees c = (
  λ same. absurd cc,
  λ right. absurd
      (different_is_wrong c.args.report.now c.in-Some.difference c.requires.form (rw c.in-Some.is at c.in_ok-told.ensures.some) right),
)

pub returns-clause-only : goal.returns-clause-only
returns-clause-only c difference is =
    ap Differs (one_difference c.args.report.now c.in-Some.difference difference (rw c.in-Some.is at c.in_ok-told.ensures.some) is)
