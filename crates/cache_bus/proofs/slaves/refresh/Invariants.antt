use Rattle.std.proofs.Common.{◌≡◌, ℕ, ◌<◌, length}
use Rattle.moesi_slave.specs.declared.SlavePhase.TheVariants.{Fresh}
use Rattle.cache_bus.specs.View.{slave_in}
use Rattle.cache_bus.proofs.slaves.refresh.Given as goal

abbrev pub invariant-loop-cache : goal.invariant-loop-cache
invariant-loop-cache l = ((k : ℕ) → k < l.cache → slave_in l.slaves.items k ≡ Fresh) × (length l.slaves.items ≡ length l.fn.slaves.items)
