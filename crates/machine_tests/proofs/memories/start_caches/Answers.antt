use Rattle.std.proofs.Common.{arith}
use Rattle.machine_tests.proofs.ScriptLaws.{fits-fresh}
use Rattle.machine_tests.proofs.memories.start_caches.Goals as goal

pub returns : goal.returns
returns c = record { fits = fits-fresh _ _ _ _ c.in_ok-new.ensures.fresh (omega arith) (omega arith) }
