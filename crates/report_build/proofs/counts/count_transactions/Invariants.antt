use Rattle.std.proofs.Common.{◌≡◌, ◌+◌, ◌≤◌, length, drop}
use Rattle.std.specs.Prelude.{is_some, count_by}
use Rattle.access_log.specs.declared.Transaction.{Transaction}
use Rattle.access_log.specs.Items.{transactions}
use Rattle.letters.specs.Fold.{no_letters, FollowsFrom}
use Rattle.item_check.specs.Held.{caches_of, letters_of, IsKept}
use Rattle.report_text.specs.Counts.{is_upgrade, is_flush, count_transactions}
use Rattle.report_build.proofs.TransactionCounts.{HoldsWithin}
use Rattle.report_build.proofs.counts.count_transactions.Given as goal

abbrev pub invariant-loop-item : goal.invariant-loop-item
invariant-loop-item l = record {
  kept : IsKept l.fn.letters l.letters;
  follows : FollowsFrom (caches_of l.fn.letters) l.fn.letters.cores l.fn.letters.code_lines (letters_of l.letters) (drop l.item-index l.items);
  within : HoldsWithin l.fn.letters.cores (letters_of l.letters);
  all : l.counts.transactions + length (transactions (drop l.item-index l.items)) ≡ length (transactions l.items);
  exclusive : l.counts.exclusive + count_by (λ (bus : Transaction). bus.im) (transactions (drop l.item-index l.items))
      ≡ count_by (λ (bus : Transaction). bus.im) (transactions l.items);
  owned : l.counts.owned + count_by (λ (bus : Transaction). is_some bus.di) (transactions (drop l.item-index l.items))
      ≡ count_by (λ (bus : Transaction). is_some bus.di) (transactions l.items);
  upgrades : l.counts.upgrades + count_transactions (caches_of l.fn.letters) is_upgrade (letters_of l.letters) (drop l.item-index l.items)
      ≡ count_transactions (caches_of l.fn.letters) is_upgrade no_letters l.items;
  flushes : l.counts.flushes + count_transactions (caches_of l.fn.letters) is_flush (letters_of l.letters) (drop l.item-index l.items)
      ≡ count_transactions (caches_of l.fn.letters) is_flush no_letters l.items;
  few_all : l.counts.transactions ≤ l.item-index;
  few_exclusive : l.counts.exclusive ≤ l.item-index;
  few_owned : l.counts.owned ≤ l.item-index;
  few_upgrades : l.counts.upgrades ≤ l.item-index;
  few_flushes : l.counts.flushes ≤ l.item-index;
}
