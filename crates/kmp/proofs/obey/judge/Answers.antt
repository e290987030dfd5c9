use Rattle.std.proofs.Common.{refl, subst, inl, inr}
use Rattle.replayer.specs.Difference.{IsDifference, IfDiffers}
use Rattle.replayer.proofs.CheckLaws.{different_is_wrong}
use Rattle.kmp_call.specs.declared.status.Status.TheVariants.{Differs}
use Rattle.kmp.proofs.obey.judge.Goals as goal

pub returns-in-Ok-Differs : goal.returns-in-Ok-Differs
returns-in-Ok-Differs g c =
    let report = c.args.report.now in
    let difference = c.in-Ok-Differs.difference in
    let is : IsDifference report difference =
    subst (λ verdict. IfDiffers verdict (IsDifference report)) c.in-Ok-Differs.field-0-is c.in-Ok-Differs.ensures.differs in
    inl (record {
      text = c.differs.result;
      due = Differs difference.line;
      is_due = inr (λ right. different_is_wrong report difference c.requires.form is right, difference, is, c.differs.ensures.row, refl);
      answers = c.write_row-in-Ok-Differs.ensures.answers;
    })
