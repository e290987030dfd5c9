use Rattle.std.proofs.Common.{rules}
use Rattle.cache_bus.proofs.MainLaws.{no-owner}
use Rattle.cache_bus.proofs.main_memory.owner_of.Goals as goal

pub returns-clause-none : goal.returns-clause-none
returns-clause-none c = no-owner c.args.caches.now.items c.args.line _ (search rules) c.loop-cache.invariant
