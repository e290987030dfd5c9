use Rattle.std.proofs.Common.{◌≡◌, ◌≤◌}
use Rattle.coherence.specs.Bus.{count_others}
use Rattle.cache_bus.specs.View.{slave_in, is_left}
use Rattle.cache_bus.proofs.slaves.next.Given as goal

abbrev pub invariant-loop-cache : goal.invariant-loop-cache
invariant-loop-cache l = (l.count ≡ count_others (is_left l.looks) (slave_in l.slaves.items) l.master l.cache) × (l.count ≤ l.place)
