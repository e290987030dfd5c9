-- What is counted of the items is counted of their entries.
use Rattle.std.proofs.Common.{◌≡◌, ◌+◌, Bool, List, [], ◌∷◌, length, Option, None, Some, refl, sym, ◌∙◌, ap, cond}
use Rattle.std.specs.List.{count_by}
use Rattle.std_laws.proofs.ListLaws.{count_by-cons}
use Rattle.access_log.specs.declared.Entry.{Entry}
use Rattle.access_log.specs.declared.Transaction.{Transaction}
use Rattle.access_log.specs.declared.Item.{Item}
use Rattle.access_log.specs.declared.Item.TheVariants.{Done, Bus}
use Rattle.access_log.specs.Items.{entries, transactions}
use Rattle.letters.specs.Caches.{Caches}
use Rattle.letters.specs.Fold.{LettersValue, after_entry}
use Rattle.report_rows.specs.Ends.{EndValue}
use Rattle.report_text.specs.Counts.{count_transactions}
use Rattle.report_text.specs.Counts.{counts_of, at_entry}

pub length-counts_of : (caches : Option Caches) (cores : List EndValue) (items : List Item) → length (counts_of caches cores items) ≡ 13
unfolding counts_of
length-counts_of None cores items = refl
length-counts_of (Some caches) cores items = refl

-- ---- without transactions

none_counted : (caches : Caches) (test : LettersValue → Transaction → Bool) (letters : LettersValue) (items : List Item)
    → transactions items ≡ [] → count_transactions caches test letters items ≡ 0
none_counted caches test letters [] none = refl
none_counted caches test letters (Done entry ∷ items) none = none_counted caches test (after_entry letters entry) items none
none_counted caches test letters (Bus bus ∷ items) none = absurd cc

-- ---- the entries

pub count_by_at_entry : (test : Entry → Bool) (items : List Item) → count_by (at_entry test) items ≡ count_by test (entries items)
count_by_at_entry test [] = refl
count_by_at_entry test (Done entry ∷ items) =
    count_by-cons (at_entry test) (Done entry) items ∙ ap (λ n. cond (test entry) 1 0 + n) (count_by_at_entry test items)
    ∙ sym (count_by-cons test entry (entries items))
count_by_at_entry test (Bus transaction ∷ items) = count_by_at_entry test items
