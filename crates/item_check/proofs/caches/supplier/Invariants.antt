use Rattle.std.proofs.Common.{◌≡◌}
use Rattle.letters.specs.Fold.{supplier_of}
use Rattle.item_check.specs.Held.{letter_at}
use Rattle.item_check.proofs.caches.supplier.Given as goal

abbrev pub invariant-loop-cache : goal.invariant-loop-cache
invariant-loop-cache l = record { supplier : l.di ≡ supplier_of (letter_at l.caches) l.master l.line l.cache }
