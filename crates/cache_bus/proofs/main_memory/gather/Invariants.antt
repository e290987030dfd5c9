use Rattle.cache_bus.specs.Caches.{Gathered}
use Rattle.cache_bus.proofs.main_memory.gather.Given as goal

abbrev pub invariant-loop-line : goal.invariant-loop-line
invariant-loop-line l = Gathered l.line l.caches.items l.fn.main.items l.main.items
