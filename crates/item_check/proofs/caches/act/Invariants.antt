use Rattle.std.proofs.Common.{◌≡◌, ℕ, ◌<◌, ◌≤◌, [], length, get_or}
use Rattle.item_check.specs.Held.{acted_beside, HaveSets}
use Rattle.item_check.proofs.caches.act.Given as goal

abbrev pub invariant-loop-cache : goal.invariant-loop-cache
invariant-loop-cache l = record {
  sets : HaveSets l.caches;
  count : length l.caches ≡ length l.fn.caches;
  done : (cache : ℕ) → cache < l.cache
      → get_or l.caches cache [] ≡ acted_beside l.master l.line l.im cache (get_or l.fn.caches cache []);
  ahead : (cache : ℕ) → l.cache ≤ cache → get_or l.caches cache [] ≡ get_or l.fn.caches cache [];
}
