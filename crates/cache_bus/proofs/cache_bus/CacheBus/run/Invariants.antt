use Rattle.std.proofs.Common.{◌*◌}
use Rattle.coherence.specs.Bus.{transitions_left}
use Rattle.cache_bus.specs.View.{bus_in}
use Rattle.cache_bus.specs.Calls.{StaysOn}
use Rattle.cache_bus.proofs.cache_bus.CacheBus.run.Given as goal

abbrev pub invariant-loop-self : goal.invariant-loop-self
invariant-loop-self l = StaysOn l.fn.self l.self

abbrev pub decreases-loop-self : goal.decreases-loop-self
decreases-loop-self l = transitions_left (bus_in l.self) (2 * l.self.cores)
