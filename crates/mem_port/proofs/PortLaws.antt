-- Ports, and what an answer on one of them adds to the entries of each core.
use Rattle.std.proofs.Common.{◌≡◌, ◌≢◌, ℕ, ◌⊎◌, inl, inr, Option, Some, None, List, [], ◌∷◌, ◌++◌, append-nil, refl, ap, sym, ◌∙◌}
use Rattle.std.proofs.lemmas.Bool.{cases_eq, eq-eqb, ne_eqb}
use Rattle.access_log.specs.Items.{own_items}
use Rattle.access_log.specs.Requests.{entry_of}
use Rattle.access_log.proofs.ItemLaws.{own_items-append}
use Rattle.access_log.specs.declared.Entry.{Entry}
use Rattle.access_log.specs.declared.request.Request.{Request}
use Rattle.access_log.specs.declared.Transaction.{Transaction}
use Rattle.access_log.specs.declared.Item.{Item}
use Rattle.access_log.proofs.RequestLaws.{core_of-entry}
use Rattle.mem_port.specs.declared.port.Port.{Port}
use Rattle.mem_port.specs.declared.port.Port.TheVariants.{Fetch, Access}
use Rattle.mem_port.specs.declared.port.PortState.{PortState}
use Rattle.mem_port.specs.declared.port.PortState.TheVariants.{Free, Asked, Waiting, Answered, Closed}
use Rattle.mem_port.specs.Ports.{core_of, IsAtRest, but_last, taken_of, items_of}
use Rattle.mem_port.specs.Memory.{bus_items}

-- Two ports are one, or they aren't.
pub cases_port : (p q : Port) → (q ≡ p) ⊎ (q ≢ p)
cases_port (Fetch c) (Fetch k) =
    elim (cases_eq k c) as (λ _. (Fetch k ≡ Fetch c) ⊎ (Fetch k ≢ Fetch c))
    [ inl e ↦ inl (ap Fetch e) | inr ne ↦ inr (λ e. ne (ap core_of e)) ]
cases_port (Fetch c) (Access k) = inr (λ e. cc)
cases_port (Access c) (Fetch k) = inr (λ e. cc)
cases_port (Access c) (Access k) =
    elim (cases_eq k c) as (λ _. (Access k ≡ Access c) ⊎ (Access k ≢ Access c))
    [ inl e ↦ inl (ap Access e) | inr ne ↦ inr (λ e. ne (ap core_of e)) ]

-- Without its last entry, a list with one more at its end is that list.
pub but_last-append : (entries : List Entry) (entry : Entry) → but_last (entries ++ entry ∷ []) ≡ entries
but_last-append [] entry = refl
but_last-append (x ∷ []) entry = refl
but_last-append (x ∷ y ∷ ys) entry = ap (λ t. x ∷ t) (but_last-append (y ∷ ys) entry)

-- Where there is no request, a core has taken all its entries.
pub rest-taken : (port : PortState) (own : List Entry) → IsAtRest port → taken_of port own ≡ own
rest-taken Free own h = refl
rest-taken (Asked r) own h = absurd h
rest-taken (Waiting r) own h = absurd h
rest-taken (Answered r word) own h = absurd h
rest-taken Closed own h = refl

own-items_other : (p : Port) (r : Request) (word core : ℕ) → core ≢ core_of p → own_items (items_of p r word) core ≡ []
own-items_other (Fetch c) r word core h = refl
own-items_other (Access c) r word core h = rw (core_of-entry c r word) (rw (ne_eqb c core (λ e. h (sym e))) refl)

own-items_same : (core : ℕ) (r : Request) (word : ℕ) → own_items (items_of (Access core) r word) core ≡ entry_of core r word ∷ []
own-items_same core r word = rw (core_of-entry core r word) (rw (eq-eqb core core refl) refl)

own-bus : (bus : Option Transaction) (core : ℕ) → own_items (bus_items bus) core ≡ []
own-bus None core = refl
own-bus (Some t) core = refl

-- An answer adds nothing to another core's entries.
pub own-answered_other : (h : List Item) (p : Port) (r : Request) (word core : ℕ) → core ≢ core_of p
    → own_items (h ++ items_of p r word) core ≡ own_items h core
own-answered_other h p r word core ne = own_items-append h (items_of p r word) core
    ∙ (ap (λ t. own_items h core ++ t) (own-items_other p r word core ne) ∙ append-nil (own_items h core))

-- An answer to an access adds its entry to those of its core.
pub own-answered_same : (h : List Item) (core : ℕ) (r : Request) (word : ℕ)
    → own_items (h ++ items_of (Access core) r word) core ≡ own_items h core ++ entry_of core r word ∷ []
own-answered_same h core r word = own_items-append h (items_of (Access core) r word) core
    ∙ ap (λ t. own_items h core ++ t) (own-items_same core r word)

-- A transaction adds nothing to anybody's.
pub own-bus_after : (h : List Item) (bus : Option Transaction) (core : ℕ) → own_items (h ++ bus_items bus) core ≡ own_items h core
own-bus_after h bus core = own_items-append h (bus_items bus) core
    ∙ (ap (λ t. own_items h core ++ t) (own-bus bus core) ∙ append-nil (own_items h core))
