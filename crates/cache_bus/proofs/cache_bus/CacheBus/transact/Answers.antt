use Rattle.cache_bus.proofs.StartLaws.{ends-after}
use Rattle.cache_bus.proofs.cache_bus.CacheBus.transact.Goals as goal

pub returns : goal.returns
returns c = record { ends = ends-after _ _ _ c.run.ensures.stays c.end.ensures.ends }
