-- Where entries stand when an item is appended, and that the links are kept.
use Rattle.std.proofs.Common.{◌≡◌, ℕ, zero, suc, ◌<◌, ◌≤◌, List, [], ◌∷◌, ◌++◌, length, arith, refl, sym, ◌∙◌, length-append, inl, inr}
use Rattle.std.specs.Prelude.{false, ◌==◌, if◌then◌else◌, Option, Some, None, slice_get, slice_set, slice_index_or}
use Rattle.std.specs.Option.{option_and_then}
use Rattle.std.specs.List.{AllByRecursion}
use Rattle.std.proofs.lemmas.Bool.{cases_lt, cases_eq, eq-eqb, ne_eqb}
use Rattle.std.proofs.lemmas.Option.{get_or_from_slice_get}
use Rattle.std.proofs.lemmas.List.{length-set, get_or_past}
use Rattle.std_laws.proofs.ListLaws.{slice_get-set_same, slice_get-set_other, slice_get-append_left, slice_get_at, AllByRecursion-append}
use Rattle.std_laws.proofs.OptionLaws.{option_and_then-same}
use Rattle.access_log.specs.declared.Entry.{Entry}
use Rattle.access_log.specs.declared.Transaction.{Transaction}
use Rattle.access_log.specs.declared.Item.{Item}
use Rattle.access_log.specs.declared.Item.TheVariants.{Done, Bus}
use Rattle.access_log.specs.Indices.{core_in, core_at, is_core, last_below, before, IsOfCore}
use Rattle.access_log.specs.HistoryView.{IsLinked}

-- what stands behind an index doesn't change what is before it
pub last_below-append : (xs ys : List Item) (n core : ℕ) → n ≤ length xs → last_below (xs ++ ys) n core ≡ last_below xs n core
last_below-append xs ys zero core h = refl
last_below-append xs ys (suc n) core h =
    let within : n < length xs = omega arith in
    rw (slice_get-append_left xs ys n within, last_below-append xs ys n core (omega arith)) refl

pub before-append : (xs ys : List Item) (index : ℕ) → index < length xs → before (xs ++ ys) index ≡ before xs index
before-append xs ys index h =
    rw (slice_get-append_left xs ys index h)
    (option_and_then-same (last_below (xs ++ ys) index) (last_below xs index) (λ core. last_below-append xs ys index core (omega arith))
    (core_at xs index))

-- the item that is appended
pub before-end : (items : List Item) (item : Item)
    → before (items ++ item ∷ []) (length items) ≡ option_and_then (last_below items (length items)) (core_in item)
before-end items item =
    rw (slice_get_at items item [] (length items) refl)
    (option_and_then-same (last_below (items ++ item ∷ []) (length items)) (last_below items (length items))
    (λ core. last_below-append items (item ∷ []) (length items) core (omega arith)) (core_in item))

pub last_below-end : (items : List Item) (item : Item) (core : ℕ)
    → last_below (items ++ item ∷ []) (length (items ++ item ∷ [])) core
    ≡ (if is_core core (core_in item) then Some (length items) else last_below items (length items) core)
last_below-end items item core =
    let more : length (items ++ item ∷ []) ≡ suc (length items) = omega (arith, length-append items (item ∷ [])) in
    rw (more, slice_get_at items item [] (length items) refl, last_below-append items (item ∷ []) (length items) core (omega arith)) refl

-- no entry stands below an index for a core past the last one
not_at : (items : List Item) (index core : ℕ) → AllByRecursion IsOfCore items → 8 ≤ core → is_core core (core_at items index) ≡ false
not_at [] index core h past = refl
not_at (Done entry ∷ items) zero core h past = ne_eqb entry.core core (λ e. omega (arith, h.0))
not_at (Bus transaction ∷ items) zero core h past = refl
not_at (item ∷ items) (suc index) core h past = not_at items index core h.1 past

last_below-past : (items : List Item) (n core : ℕ) → AllByRecursion IsOfCore items → 8 ≤ core → last_below items n core ≡ None
last_below-past items zero core h past = refl
last_below-past items (suc n) core h past = rw (not_at items n core h past) (last_below-past items n core h past)

-- the last indices hold what is asked, also for a core past the last one
pub last-is : (items : List Item) (links last : List (Option ℕ)) (core : ℕ) → IsLinked items links last
    → slice_index_or last core None ≡ last_below items (length items) core
last-is items links last core linked = elim (cases_lt core 8) [
  | inl below ↦ get_or_from_slice_get last core (last_below items (length items) core) None (linked.last_are core below)
  | inr past ↦ get_or_past last core None (omega (arith, linked.last_count))
      ∙ sym (last_below-past items (length items) core linked.cores past)
]

-- the links and the last indices of the items with one more
links_lead-append : (items : List Item) (links last : List (Option ℕ)) (item : Item) (link : Option ℕ) → IsLinked items links last
    → link ≡ option_and_then (last_below items (length items)) (core_in item)
    → (index : ℕ) → index < length (items ++ item ∷ []) → slice_get (links ++ link ∷ []) index ≡ Some (before (items ++ item ∷ []) index)
links_lead-append items links last item link linked is index h = elim (cases_lt index (length items)) [
  | inl within ↦
      rw (before-append items (item ∷ []) index within)
      (slice_get-append_left links (link ∷ []) index (omega (arith, linked.links_count)) ∙ linked.links_lead index within)
  | inr past ↦
      (let is_end : index ≡ length items = omega (arith, length-append items (item ∷ [])) in
      rw (is_end, before-end items item, ← is, ← linked.links_count) (slice_get_at links link [] (length links) refl))
]

IsLinked-append : (items : List Item) (links last new_last : List (Option ℕ)) (item : Item) (link : Option ℕ)
    → IsLinked items links last → IsOfCore item → link ≡ option_and_then (last_below items (length items)) (core_in item)
    → length new_last ≡ 8
    → ((core : ℕ) → core < 8 → slice_get new_last core
    ≡ Some (if is_core core (core_in item) then Some (length items) else last_below items (length items) core))
    → IsLinked (items ++ item ∷ []) (links ++ link ∷ []) new_last
IsLinked-append items links last new_last item link linked of_core is count lasts = record {
  links_count = omega (arith, length-append links (link ∷ []), length-append items (item ∷ []), linked.links_count);
  links_lead = links_lead-append items links last item link linked is;
  last_count = count;
  last_are = λ core h. rw (last_below-end items item core) (lasts core h);
  cores = AllByRecursion-append IsOfCore items (item ∷ []) linked.cores (of_core, tt);
}

-- what push does
pub IsLinked-entry : (items : List Item) (links last : List (Option ℕ)) (entry : Entry) → IsLinked items links last → entry.core < 8
    → IsLinked (items ++ Done entry ∷ []) (links ++ slice_index_or last entry.core None ∷ [])
    (slice_set last entry.core (Some (length items)))
IsLinked-entry items links last entry linked below =
    IsLinked-append items links last (slice_set last entry.core (Some (length items))) (Done entry) (slice_index_or last entry.core None)
    linked below
    (last-is items links last entry.core linked) (length-set last entry.core (Some (length items)) ∙ linked.last_count) lasts
  where
    lasts : (core : ℕ) → core < 8 → slice_get (slice_set last entry.core (Some (length items))) core
        ≡ Some (if entry.core == core then Some (length items) else last_below items (length items) core)
    lasts core h = elim (cases_eq core entry.core) [
      | inl same ↦ rw (same, eq-eqb entry.core entry.core refl)
          (slice_get-set_same last entry.core (Some (length items)) (omega (arith, linked.last_count)))
      | inr other ↦ rw (ne_eqb entry.core core (λ e. other (sym e)))
          (slice_get-set_other last entry.core core (Some (length items)) other ∙ linked.last_are core h)
    ]

pub IsLinked-transaction : (items : List Item) (links last : List (Option ℕ)) (transaction : Transaction) → IsLinked items links last
    → IsLinked (items ++ Bus transaction ∷ []) (links ++ None ∷ []) last
IsLinked-transaction items links last transaction linked =
    IsLinked-append items links last last (Bus transaction) None linked tt refl linked.last_count linked.last_are
