use Rattle.std.proofs.Common.{◌≡◌, ℕ, ◌≤◌, length, get_or, [], vec_capacity}
use Rattle.item_check.proofs.cache.HeldSets.new.Given as goal

abbrev pub invariant-loop : goal.invariant-loop
invariant-loop l = record {
  count : length l.sets.items ≡ l.counter;
  room : l.count ≤ vec_capacity l.sets;
  empty : (set : ℕ) → get_or l.sets.items set [] ≡ [];
}
