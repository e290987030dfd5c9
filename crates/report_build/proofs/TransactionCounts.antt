-- What one item more counts, and what the letters say of it.
use Rattle.std.proofs.Common.{◌≡◌, ◌≢◌, ℕ, ◌+◌, ◌*◌, ◌<◌, ◌≤◌, inl, inr, Bool, true, false, List, [], ◌∷◌, length, drop, get_or, None}
use Rattle.std.proofs.Common.{refl, ap, ◌∙◌, subst, arith}
use Rattle.std.specs.Prelude.{count_by}
use Rattle.std.proofs.lemmas.Bool.{cases_lt, cases_eq, both_ways}
use Rattle.std.proofs.lemmas.List.{drop_more}
use Rattle.std_laws.proofs.ListLaws.{count_by-cons}
use Rattle.mips_isa.specs.declared.Kind.{Kind}
use Rattle.mips_isa.specs.declared.Kind.TheVariants.{Fetch, Lw, Sw, Cas}
use Rattle.access_log.specs.declared.Letter.TheVariants.{I}
use Rattle.access_log.specs.declared.Entry.{Entry}
use Rattle.access_log.specs.declared.Transaction.{Transaction}
use Rattle.access_log.specs.declared.Item.{Item}
use Rattle.access_log.specs.declared.Item.TheVariants.{Done, Bus}
use Rattle.access_log.specs.Items.{transactions}
use Rattle.moesi_master.specs.Moesi.{is_hit}
use Rattle.moesi_slave.specs.Slave.{after_act}
use Rattle.letters.specs.Caches.{Caches, moesi, all_with}
use Rattle.letters.specs.Fold.{LettersValue, cache_of, line_of, letters_after, letter_after_transaction, FollowsFrom}
use Rattle.letters.proofs.LetterLaws.{entry-else, bus-slave, bus-gone}
use Rattle.item_check.specs.Illegal.{IsOfCores, illegal_in}
use Rattle.item_check.proofs.IllegalLaws.{illegal-not_allowed}
use Rattle.report_text.specs.Counts.{count_transactions}

-- ---- counts

pub transactions-more : (item : Item) (items : List Item)
    → length (transactions (item ∷ items)) ≡ length (transactions (item ∷ [])) + length (transactions items)
transactions-more (Done entry) items = omega arith
transactions-more (Bus bus) items = omega arith

pub count_by-more : (test : Transaction → Bool) (item : Item) (items : List Item)
    → count_by test (transactions (item ∷ items)) ≡ count_by test (transactions (item ∷ [])) + count_by test (transactions items)
count_by-more test (Done entry) items = omega arith
count_by-more test (Bus bus) items = omega (arith, count_by-cons test bus (transactions items), count_by-cons test bus [])

pub count-more : (caches : Caches) (test : LettersValue → Transaction → Bool) (letters : LettersValue) (item : Item) (items : List Item)
    → count_transactions caches test letters (item ∷ items)
    ≡ count_transactions caches test letters (item ∷ []) + count_transactions caches test (letters_after caches letters (item ∷ [])) items
count-more caches test letters (Done entry) items = omega arith
count-more caches test letters (Bus bus) items = omega arith

-- ---- items that follow the letters

no-hit : (kind : Kind) → is_hit I kind ≡ false
no-hit Fetch = refl
no-hit Lw = refl
no-hit Sw = refl
no-hit Cas = refl

-- Caches that aren't there hold nothing.
abbrev pub HoldsWithin : ℕ → LettersValue → Type 0
HoldsWithin cores letters = (cache line : ℕ) → 2 * cores ≤ cache → letters.letter cache line ≡ I

module _ (sets ways cores code_lines : ℕ) (letters : LettersValue) (within : HoldsWithin cores letters) where
  abbrev caches : Caches
  caches = all_with moesi sets ways

  entry-core : (entry : Entry) → is_hit (letters.letter (cache_of entry) (line_of entry)) entry.kind ≡ true → entry.core < cores
  entry-core entry hit = elim (cases_lt entry.core cores) as (λ _. entry.core < cores) [
    | inl below ↦ below
    | inr past ↦
        let none = within (cache_of entry) (line_of entry) (omega (arith, past)) in
        absurd (both_ways (is_hit (letters.letter (cache_of entry) (line_of entry)) entry.kind)
        (ap (λ letter. is_hit letter entry.kind) none ∙ no-hit entry.kind) hit)
  ]

  item-core : (item : Item) (items : List Item) → FollowsFrom caches cores code_lines letters (item ∷ items) → IsOfCores cores item
  item-core (Done entry) items follows = entry-core entry follows.0
  item-core (Bus bus) items follows = follows.0.master

  item-legal : (item : Item) (items : List Item) → FollowsFrom caches cores code_lines letters (item ∷ items)
      → illegal_in caches cores code_lines letters item ≡ None
  item-legal (Done entry) items follows = illegal-not_allowed.allowed caches cores code_lines letters (Done entry) (follows.0, tt)
  item-legal (Bus bus) items follows = illegal-not_allowed.allowed caches cores code_lines letters (Bus bus) (follows.0, tt)

  item-follows : (item : Item) (items : List Item) → FollowsFrom caches cores code_lines letters (item ∷ items)
      → FollowsFrom caches cores code_lines (letters_after caches letters (item ∷ [])) items
  item-follows (Done entry) items follows = follows.1
  item-follows (Bus bus) items follows = follows.1

  act-none : (im : Bool) → after_act I im ≡ I
  act-none true = refl
  act-none false = refl

  item-within : (item : Item) (items : List Item) → FollowsFrom caches cores code_lines letters (item ∷ items)
      → HoldsWithin cores (letters_after caches letters (item ∷ []))
  item-within (Done entry) items follows cache line past =
      let core = entry-core entry follows.0 in
      entry-else letters entry cache line (λ same _. omega (arith, core, past, same)) ∙ within cache line past
  item-within (Bus bus) items follows cache line past =
      let other : cache ≢ bus.master = λ same. omega (arith, past, same, follows.0.master) in
      elim (cases_eq line bus.line) as (λ _. letter_after_transaction caches letters bus cache line ≡ I) [
        | inl same ↦ ap (λ l. letter_after_transaction caches letters bus cache l) same ∙ bus-slave caches letters bus cache other
            ∙ ap (λ letter. after_act letter bus.im) (within cache bus.line past) ∙ act-none bus.im
        | inr differs ↦ bus-gone caches letters bus cache line differs (within cache line past)
      ]

  -- At an index of a list of items.
  module _ (items : List Item) (index : ℕ) (default : Item) (here : index < length items)
      (follows : FollowsFrom caches cores code_lines letters (drop index items)) where
    abbrev item : Item
    item = get_or items index default

    from-here : FollowsFrom caches cores code_lines letters (item ∷ drop (index + 1) items)
    from-here = subst (FollowsFrom caches cores code_lines letters) (drop_more items index default here) follows

    pub core-at : IsOfCores cores item
    core-at = item-core item (drop (index + 1) items) from-here

    pub legal-at : illegal_in caches cores code_lines letters item ≡ None
    legal-at = item-legal item (drop (index + 1) items) from-here

    pub follows-at : FollowsFrom caches cores code_lines (letters_after caches letters (item ∷ [])) (drop (index + 1) items)
    follows-at = item-follows item (drop (index + 1) items) from-here

    pub within-at : HoldsWithin cores (letters_after caches letters (item ∷ []))
    within-at = item-within item (drop (index + 1) items) from-here
