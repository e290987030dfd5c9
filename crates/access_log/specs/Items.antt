-- The items of a history: its entries, and the memory that they leave.
use Rattle.std.specs.Prelude.{◌≡◌, ℕ, ◌^◌, ◌<◌, Bool, ◌==◌, if◌then◌else◌, List, [], ◌∷◌, IfSome}
use Rattle.mips_isa.specs.Kinds.{part}
use Rattle.access_log.specs.declared.Entry.{Entry}
use Rattle.access_log.specs.declared.Transaction.{Transaction}
use Rattle.access_log.specs.declared.Item.{Item}
use Rattle.access_log.specs.declared.Item.TheVariants.{Done, Bus}
use Rattle.access_log.specs.Memory.{word_at, after}

-- The words that an access found and stored have 32 bits.
abbrev pub HasWords : Item → Type 0
HasWords (Done entry) = (entry.old < 2 ^ 32) × IfSome entry.new (λ word. word < 2 ^ 32)
HasWords (Bus transaction) = Unit {0}

-- Its entries, in order.
abbrev pub entries : List Item → List Entry
entries [] = []
entries (Done entry ∷ items) = entry ∷ entries items
entries (Bus transaction ∷ items) = entries items

-- Its transactions, in order.
abbrev pub transactions : List Item → List Transaction
transactions [] = []
transactions (Done entry ∷ items) = transactions items
transactions (Bus transaction ∷ items) = transaction ∷ transactions items

-- Memory after its entries.
abbrev pub after_items : List ℕ → List Item → List ℕ
after_items memory [] = memory
after_items memory (Done entry ∷ items) = after_items (after memory entry) items
after_items memory (Bus transaction ∷ items) = after_items memory items

-- Each entry has found what the entries before it left.
abbrev pub IsLegal : List ℕ → List Item → Type 0
IsLegal memory [] = Unit {0}
IsLegal memory (Done entry ∷ items) =
    (entry.old ≡ part entry.kind entry.addr (word_at memory entry.addr)) × IsLegal (after memory entry) items
IsLegal memory (Bus transaction ∷ items) = IsLegal memory items

-- An entry before others, where it is a core's own.
abbrev pub if_own : Bool → Entry → List Entry → List Entry
if_own is_own entry more = if is_own then entry ∷ more else more

-- The entries of one core, in order.
abbrev pub own_items : List Item → ℕ → List Entry
own_items [] core = []
own_items (Done entry ∷ items) core = if_own (entry.core == core) entry (own_items items core)
own_items (Bus transaction ∷ items) core = own_items items core
