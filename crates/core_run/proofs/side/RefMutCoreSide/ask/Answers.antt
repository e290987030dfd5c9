use Rattle.std.proofs.Common.{refl}
use Rattle.mem_port.proofs.SideLaws.{asks-leaves, asks-paid}
use Rattle.core_run.proofs.side.RefMutCoreSide.ask.Goals as goal

pub returns-clause-others : goal.returns-clause-others
returns-clause-others g c = (asks-leaves _ _ _ _ c.ask.ensures.asks, refl)

pub returns-clause-paid : goal.returns-clause-paid
returns-clause-paid g c = asks-paid _ _ _ _ c.ask.ensures.asks
