use Rattle.std.proofs.Common.{◌≡◌, ℕ, ◌<◌, false}
use Rattle.moesi_master.specs.Moesi.{is_dirty}
use Rattle.cache_bus.specs.Caches.{letters_in}
use Rattle.cache_bus.proofs.main_memory.owner_of.Given as goal

abbrev pub invariant-loop-cache : goal.invariant-loop-cache
invariant-loop-cache l = (k : ℕ) → k < l.cache → is_dirty (letters_in l.caches.items k l.line) ≡ false
