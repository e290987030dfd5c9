use Rattle.std.proofs.Common.{refl}
use Rattle.mem_port.proofs.SideLaws.{serves-leaves, serves-side}
use Rattle.core_run.proofs.side.RefMutCoreSide.serve.Goals as goal

pub returns-clause-served : goal.returns-clause-served
returns-clause-served g c = λ r e. serves-side _ r _ _ c.serve.ensures.lawful e (c.serve.ensures.serves r e)

pub returns-clause-others : goal.returns-clause-others
returns-clause-others g c = (serves-leaves _ c.requires.asked.0 _ _ (c.serve.ensures.serves c.requires.asked.0 c.requires.asked.1), refl)
