use Rattle.cache_bus.specs.Caches.{AreEmpty}
use Rattle.cache_bus.proofs.caches.empty.Given as goal

abbrev pub invariant-loop-made : goal.invariant-loop-made
invariant-loop-made l = AreEmpty l.made l.sets l.caches.items
