use Rattle.pipe_core.proofs.EngineLemmas.{known-mem}
use Rattle.pipe_core.proofs.pipe.PipeCoreEngine.want_access.Goals as goal

pub access_of-requires-clause-known : goal.access_of-requires-clause-known
access_of-requires-clause-known c = known-mem _ c.self.invariant
