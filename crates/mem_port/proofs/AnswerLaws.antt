-- What an answer on a port leaves right: it is what was there, and the last of its core's entries.
use Rattle.std.proofs.Common.{◌≡◌, ◌≢◌, ℕ, Option, Some, None, List, [], ◌∷◌, ◌++◌, append-nil, refl, ap, sym, ◌∙◌}
use Rattle.image_file.specs.Value.{ImageValue, start_memory}
use Rattle.mips_isa.specs.Kinds.{part}
use Rattle.access_log.specs.Memory.{word_at}
use Rattle.access_log.specs.Items.{transactions, after_items, IsLegal, own_items}
use Rattle.access_log.specs.Requests.{entry_of, access_of, old_at}
use Rattle.access_log.proofs.ItemLaws.{IsLegal-append}
use Rattle.access_log.specs.declared.request.Request.{Request}
use Rattle.access_log.specs.declared.Transaction.{Transaction}
use Rattle.access_log.specs.declared.Item.{Item}
use Rattle.mem_port.specs.declared.port.Port.{Port}
use Rattle.mem_port.specs.declared.port.Port.TheVariants.{Fetch, Access}
use Rattle.mem_port.specs.declared.port.PortState.TheVariants.{Answered}
use Rattle.mem_port.specs.Ports.{HoldsCode, HoldsEntry, but_last, items_of}
use Rattle.mem_port.specs.Flat.{IsFound}
use Rattle.mem_port.specs.Memory.{bus_items}
use Rattle.mem_port.proofs.PortLaws.{but_last-append, own-answered_other, own-answered_same}

legal-entry : (core : ℕ) (r : Request) (word : ℕ) (memory : List ℕ) → word ≡ old_at memory r
    → (entry_of core r word).old ≡ part (entry_of core r word).kind (entry_of core r word).addr (word_at memory (entry_of core r word).addr)
unfolding entry_of access_of old_at
legal-entry core r word memory e = e

pub answer-legal : (image : ImageValue) (items : List Item) (p : Port) (r : Request) (word : ℕ)
    → IsFound image (after_items (start_memory image) items) p r word → IsLegal (start_memory image) items
    → IsLegal (start_memory image) (items ++ items_of p r word)
answer-legal image items (Fetch core) r word found legal = rw (append-nil items) legal
answer-legal image items (Access core) r word found legal =
    IsLegal-append (start_memory image) items (items_of (Access core) r word) legal
    (legal-entry core r word (after_items (start_memory image) items) found, tt)

pub answer-no_bus : (p : Port) (r : Request) (word : ℕ) → transactions (items_of p r word) ≡ []
answer-no_bus (Fetch core) r word = refl
answer-no_bus (Access core) r word = refl

pub answer-other : (items : List Item) (p : Port) (r : Request) (word core : ℕ) → Access core ≢ p
    → own_items (items ++ items_of p r word) core ≡ own_items items core
answer-other items (Fetch c) r word core ne = ap (λ t. own_items t core) (append-nil items)
answer-other items (Access c) r word core ne = own-answered_other items (Access c) r word core (λ e. ne (ap Access e))

pub answer-code : (image : ImageValue) (words : List ℕ) (p : Port) (r : Request) (word core : ℕ) → IsFound image words p r word → Fetch core ≡ p
    → HoldsCode image (Answered r word)
answer-code image words (Fetch c) r word core found e = found
answer-code image words (Access c) r word core found e = cc

pub entry-last : (items : List Item) (core : ℕ) (r : Request) (word : ℕ)
    → HoldsEntry core (own_items (items ++ items_of (Access core) r word) core) (Answered r word)
entry-last items core r word =
    let e = own-answered_same items core r word in
    e ∙ ap (λ t. t ++ entry_of core r word ∷ []) (sym (ap but_last e ∙ but_last-append (own_items items core) (entry_of core r word)))

-- A transaction has no words.
pub bus-legal : (memory : List ℕ) (items : List Item) (bus : Option Transaction) → IsLegal memory items
    → IsLegal memory (items ++ bus_items bus)
bus-legal memory items None legal = IsLegal-append memory items [] legal tt
bus-legal memory items (Some transaction) legal = IsLegal-append memory items (bus_items (Some transaction)) legal tt
