use Rattle.std.proofs.Common.{refl}
use Rattle.mem_port.proofs.SideLaws.{takes-leaves}
use Rattle.core_run.proofs.side.RefMutCoreSide.take.Goals as goal

pub returns-clause-others : goal.returns-clause-others
returns-clause-others g c = (takes-leaves c.take.result _ _ _ c.take.ensures.takes, refl)
