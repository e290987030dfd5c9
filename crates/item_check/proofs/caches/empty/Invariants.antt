use Rattle.std.proofs.Common.{◌≡◌, ℕ, ◌<◌, ◌≤◌, [], length, get_or}
use Rattle.item_check.proofs.caches.empty.Given as goal

abbrev pub invariant-loop : goal.invariant-loop
invariant-loop l = record {
  count : length l.caches.items ≡ l.counter;
  sets : (cache : ℕ) → cache < l.counter → length (get_or l.caches.items cache []) ≡ l.sets;
  empty : (cache set : ℕ) → get_or (get_or l.caches.items cache []) set [] ≡ [];
  room : l.count ≤ l.caches.cap;
}
