use Rattle.mips_isa.proofs.StepsLaws.{executed-zero}
use Rattle.mips_isa.proofs.steps.next.Goals as goal

pub returns-in-None-clause-zero : goal.returns-in-None-clause-zero
returns-in-None-clause-zero c = rw c.execute.ensures.value (executed-zero c.in-Some-instr.instr c.args.state.now)
