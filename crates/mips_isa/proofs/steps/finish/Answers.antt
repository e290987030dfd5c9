use Rattle.mips_isa.proofs.StepsLaws.{answered-zero}
use Rattle.mips_isa.proofs.steps.finish.Goals as goal

pub returns-in-Some-kind-clause-zero : goal.returns-in-Some-kind-clause-zero
returns-in-Some-kind-clause-zero c =
    rw c.answer.ensures.value (answered-zero c.in-Some.instr c.in-Some-kind.kind c.args.old c.args.state.now)
