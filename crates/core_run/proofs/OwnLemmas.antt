-- Items whose entries are of some cores alone.
use Rattle.std.proofs.Common.{◌≡◌, ◌≢◌, ℕ, ◌<◌, ◌≤◌, inl, inr, Bool, true, false, List, [], ◌∷◌, refl, ap, arith}
use Rattle.std.specs.Prelude.{◌==◌}
use Rattle.std.specs.List.{AllByRecursion}
use Rattle.std.proofs.lemmas.Bool.{cases_eq, cases_lt, eq-eqb}
use Rattle.access_log.specs.declared.Entry.{Entry}
use Rattle.access_log.specs.declared.Item.{Item}
use Rattle.access_log.specs.declared.Item.TheVariants.{Done, Bus}
use Rattle.access_log.specs.Items.{entries, own_items, if_own}

if_own-empty : (is_own : Bool) (entry : Entry) (more : List Entry) → if_own is_own entry more ≡ [] → (is_own ≡ false) × (more ≡ [])
if_own-empty true entry more h = cc
if_own-empty false entry more h = (refl, h)

-- An entry is its core's own.
not-empty : (entry : Entry) (items : List Item) → own_items (Done entry ∷ items) entry.core ≡ [] → ⊥
not-empty entry items h =
    let is_other = (if_own-empty (entry.core == entry.core) entry (own_items items entry.core) h).0 in
    let is_own = eq-eqb entry.core entry.core refl in
    cc

-- Where no core that is ruled out has an entry, none has one in the rest.
none-behind : (items : List Item) (entry : Entry) (core : ℕ) → own_items (Done entry ∷ items) core ≡ [] → own_items items core ≡ []
none-behind items entry core h = (if_own-empty (entry.core == core) entry (own_items items core) h).1

-- Entries are those of one core, where no other has any.
pub entries-own : (items : List Item) (core : ℕ) → ((other : ℕ) → other ≢ core → own_items items other ≡ [])
    → entries items ≡ own_items items core
entries-own [] core h = refl
entries-own (Bus bus ∷ items) core h = entries-own items core h
entries-own (Done entry ∷ items) core h =
    let others = entries-own items core (λ other ne. none-behind items entry other (h other ne)) in
    elim (cases_eq entry.core core) as (λ _. entries (Done entry ∷ items) ≡ own_items (Done entry ∷ items) core) [
      | inl is ↦ rw (eq-eqb entry.core core is) (ap (λ t. entry ∷ t) others)
      | inr ne ↦ absurd (not-empty entry items (h entry.core ne))
    ]

if_own-all : (is_own : Bool) (entry : Entry) (more : List Entry) (core : ℕ) → (entry.core == core) ≡ is_own
    → AllByRecursion (λ (e : Entry). e.core ≡ core) more
    → AllByRecursion (λ (e : Entry). e.core ≡ core) (if_own is_own entry more)
if_own-all true entry more core is h = (grind arith, h)
if_own-all false entry more core is h = h

-- A core's own entries are of that core.
pub own-all : (items : List Item) (core : ℕ) → AllByRecursion (λ (e : Entry). e.core ≡ core) (own_items items core)
own-all [] core = tt
own-all (Bus bus ∷ items) core = own-all items core
own-all (Done entry ∷ items) core = if_own-all (entry.core == core) entry (own_items items core) core refl (own-all items core)

-- All are of a core below a number, where no other has any.
pub entries-within : (items : List Item) (cores : ℕ) → ((core : ℕ) → cores ≤ core → own_items items core ≡ [])
    → AllByRecursion (λ (e : Entry). e.core < cores) (entries items)
entries-within [] cores h = tt
entries-within (Bus bus ∷ items) cores h = entries-within items cores h
entries-within (Done entry ∷ items) cores h = (
  elim (cases_lt entry.core cores) as (λ _. entry.core < cores) [ inl lt ↦ lt | inr le ↦ absurd (not-empty entry items (h entry.core le)) ],
  entries-within items cores (λ core le. none-behind items entry core (h core le)),
)
