use Rattle.std.proofs.Common.{refl}
use Rattle.mem_port.proofs.SideLaws.{withdraws-leaves}
use Rattle.core_run.proofs.side.RefMutCoreSide.withdraw.Goals as goal

pub returns-clause-others : goal.returns-clause-others
returns-clause-others g c = (withdraws-leaves c.withdraw.result _ _ _ c.withdraw.ensures.withdraws, refl)
