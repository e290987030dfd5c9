use Rattle.std.proofs.Common.{refl}
use Rattle.mem_port.proofs.SideLaws.{steps-leaves, steps-side}
use Rattle.core_run.proofs.side.RefMutCoreSide.step.Goals as goal

pub returns-clause-steps : goal.returns-clause-steps
returns-clause-steps g c = λ core h. steps-side c.step.result core _ _ h.lawful c.step.ensures.steps

pub returns-clause-others : goal.returns-clause-others
returns-clause-others g c = λ core h. (steps-leaves c.step.result core _ _ c.step.ensures.steps, refl)
