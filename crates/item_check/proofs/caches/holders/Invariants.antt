use Rattle.std.proofs.Common.{◌≡◌, ◌<◌, ◌^◌}
use Rattle.letters.specs.Fold.{holders}
use Rattle.item_check.specs.Held.{letter_at}
use Rattle.item_check.proofs.caches.holders.Given as goal

abbrev pub invariant-loop-cache : goal.invariant-loop-cache
invariant-loop-cache l = record {
  holders : l.ch ≡ holders (letter_at l.caches) l.master l.line l.cache;
  few : l.ch < 2 ^ l.cache;
}
