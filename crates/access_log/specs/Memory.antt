-- Flat memory: one list of words, index i of which is the word at address 4i.
use Rattle.std.specs.Prelude.{ℕ, Bool, true, false, ◌&&◌, ◌==◌, ◌/◌, if◌then◌else◌, Option, Some, None, List, [], ◌∷◌, slice_index}
use Rattle.std.specs.Prelude.{slice_set}
use Rattle.mips_isa.specs.declared.Kind.{Kind}
use Rattle.mips_isa.specs.declared.Kind.TheVariants.{Fetch, Lw, Sw, Cas}
use Rattle.mips_isa.specs.declared.Access.{Access}
use Rattle.mips_isa.specs.Kinds.{stores, part, with_part}
use Rattle.access_log.specs.declared.Entry.{Entry}

-- The word at an address.
abbrev pub word_at : List ℕ → ℕ → ℕ
word_at memory addr = slice_index memory (addr / 4)

-- What an access stores, where the part of memory was old: a compare and swap its value, where old is what it expects.
abbrev pub new_part : Kind → Access → ℕ → Option ℕ
new_part Cas access old = if old == access.expected then Some access.value else None
new_part kind access old = if stores kind then Some access.value else None

-- The entry of a core's access that found this part of memory.
abbrev pub made : ℕ → ℕ → Access → ℕ → Entry
made core nth access old = record {
  core = core;
  nth = nth;
  kind = access.kind;
  addr = access.addr;
  old = old;
  new = new_part access.kind access old;
}

-- The entry that is due for a core's access: it finds the part of memory at its address.
unfoldable pub due : List ℕ → ℕ → ℕ → Access → Entry
due memory core nth access = made core nth access (part access.kind access.addr (word_at memory access.addr))

-- Whether an entry has found what memory holds.
abbrev pub has_found : List ℕ → Entry → Bool
has_found memory entry = entry.old == part entry.kind entry.addr (word_at memory entry.addr)

-- Memory after an access at an address that stored something, or nothing.
abbrev pub after_storing : List ℕ → Kind → ℕ → Option ℕ → List ℕ
after_storing memory kind addr None = memory
after_storing memory kind addr (Some value) = slice_set memory (addr / 4) (with_part kind addr (word_at memory addr) value)

-- Memory after an entry.
unfoldable pub after : List ℕ → Entry → List ℕ
after memory entry = after_storing memory entry.kind entry.addr entry.new

-- Memory after a list of entries: none where one of them has not found what the entries before it left.
unfoldable pub memory_after : List Entry → List ℕ → Option (List ℕ)
memory_after [] memory = Some memory
memory_after (entry ∷ entries) memory =
    if has_found memory entry then memory_after entries (after memory entry) else None

-- A number for each kind, by which kinds are compared.
abbrev pub kind_number : Kind → ℕ
kind_number Fetch = 0
kind_number Lw = 1
kind_number Sw = 2
kind_number Cas = 3

-- Whether two words are the same, where there are any.
abbrev pub is_same_word : Option ℕ → Option ℕ → Bool
is_same_word None None = true
is_same_word (Some a) (Some b) = a == b
is_same_word _ _ = false

-- Whether two entries are the same in each field.
unfoldable pub is_same : Entry → Entry → Bool
is_same a b =
    (a.core == b.core) && ((a.nth == b.nth) && ((kind_number a.kind == kind_number b.kind)
    && ((a.addr == b.addr) && ((a.old == b.old) && is_same_word a.new b.new))))
