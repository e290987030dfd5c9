-- What is read of each row of a report, from its parts.
use Rattle.std.specs.Prelude.{ℕ, zero, suc, ◌+◌, ◌-◌, ◌*◌, ◌/◌, ◌%◌, ◌^◌, ◌==◌, ◌&&◌, ◌||◌, nat_lt, nat_le, if◌then◌else◌, Bool, true, false}
use Rattle.std.specs.Prelude.{List, [], ◌∷◌}
use Rattle.std.specs.Prelude.{codes, decimal}
use Rattle.std.specs.Prelude.{Option, Some, None}
use Rattle.std.specs.Str.{bytes_eq}
use Rattle.std.specs.Option.{option_map}
use Rattle.std.specs.Int.{w16, from_be_bytes}
use Rattle.row_reader.specs.Rows.{Row, is_named}
use Rattle.row_reader.specs.Fields.{◌>>=◌, part_at, field_at, ended}
use Rattle.row_reader.specs.Numbers.{number_of, optional_number_of, word_of, optional_word_of, bytes_of, exactly}
use Rattle.kmp_base.specs.Names.{named, with_names, machine_name, policy_name, turns_name, every_policy, every_turns}
use Rattle.kmp_base.specs.declared.setup.MachineKind.{MachineKind}
use Rattle.kmp_base.specs.declared.setup.MachineKind.TheVariants.{Plain, Pipe, Full}
use Rattle.kmp_base.specs.declared.setup.Policy.{Policy}
use Rattle.kmp_base.specs.declared.setup.Turns.{Turns}
use Rattle.mips_isa.specs.declared.Kind.{Kind}
use Rattle.mips_isa.specs.declared.Kind.TheVariants as kinds
use Rattle.mips_isa.specs.declared.Stop.TheVariants as stops
use Rattle.access_log.specs.declared.Entry.{Entry}
use Rattle.access_log.specs.declared.Letter.{Letter}
use Rattle.access_log.specs.declared.Letter.TheVariants as letters
use Rattle.access_log.specs.declared.Transaction.{Transaction}
use Rattle.access_log.specs.declared.Item.{Item}
use Rattle.access_log.specs.declared.Item.TheVariants.{Done, Bus}
use Rattle.access_log.specs.Names.{letter_name}
use Rattle.timetable.specs.declared.End.{End}
use Rattle.timetable.specs.declared.End.TheVariants as ends
use Rattle.mips_isa.specs.Names.{kind_name}
use Rattle.timetable.specs.Names.{end_name}
use Rattle.timetable.specs.declared.rows.TimeRow.{TimeRow}
use Rattle.report_rows.specs.declared.MemoryWord.{MemoryWord}
use Rattle.report_rows.specs.Names.{bit_name}
use Rattle.report_rows.specs.Bounds.{has_bus}
use Rattle.report_row_reader.specs.declared.read.EndRow.{EndRow}

-- ---- names

abbrev pub every_machine : List MachineKind
every_machine = Plain ∷ Pipe ∷ Full ∷ []

-- the one of this name
unfoldable pub machine_of : List ℕ → Option MachineKind
machine_of text = named (with_names machine_name every_machine) text

-- the policy of this name
unfoldable pub policy_of : List ℕ → Option Policy
policy_of text = named (with_names policy_name every_policy) text

-- the turns of this name
unfoldable pub turns_of : List ℕ → Option Turns
turns_of text = named (with_names turns_name every_turns) text

-- the kinds of an access: it is no fetch
abbrev pub every_access : List Kind
every_access = kinds.Lw ∷ kinds.Sw ∷ kinds.Cas ∷ []

-- the kind of this name
unfoldable pub kind_of : List ℕ → Option Kind
kind_of text = named (with_names kind_name every_access) text

-- the ends of a core
abbrev pub every_end : List End
every_end =
    ends.Stopped stops.OffCode ∷ ends.Stopped stops.Halt ∷ ends.Stopped stops.Misaligned
    ∷ ends.Stopped stops.Outside ∷ ends.Stopped stops.CodeWrite ∷ ends.Spent ∷ []

-- the end of this name
unfoldable pub end_of : List ℕ → Option End
end_of text = named (with_names end_name every_end) text

-- ---- rows that say one thing, or a name and a value

-- these parts and no others
unfoldable pub fixed_of : Row → Row → Option (Unit {0})
fixed_of [] row = ended tt row
fixed_of (part ∷ parts) row = field_at (exactly part) row >>= λ p. fixed_of parts p.1

-- the text behind a name, in a row of these two parts
abbrev pub text_behind : List ℕ → Row → Option (List ℕ)
text_behind name row = do
  title ← field_at (exactly name) row
  text ← part_at title.1
  ended text.0 text.1

-- a value behind a name
abbrev pub behind_name : {X : Type 0} → (List ℕ → Option X) → List ℕ → Row → Option X
behind_name value_of name row = text_behind name row >>= value_of

-- a number from a least to a most
unfoldable pub number_from : ℕ → ℕ → List ℕ → Option ℕ
number_from least most text = number_of most text >>= λ n. if nat_le least n then Some n else None

-- a power of two up to 256: these are the divisors of 256
unfoldable pub sets_of : List ℕ → Option ℕ
sets_of text = number_from 1 256 text >>= λ n. if 256 % n == 0 then Some n else None

-- the number of a row of this name, within its limits
unfoldable pub number_row_of : List ℕ → ℕ → ℕ → Row → Option ℕ
number_row_of name least most row = behind_name (number_from least most) name row

-- how much of the machine is there
unfoldable pub machine_row_of : Row → Option MachineKind
machine_row_of row = behind_name machine_of (codes "machine") row

-- the number of sets
unfoldable pub sets_row_of : Row → Option ℕ
sets_row_of row = behind_name sets_of (codes "sets") row

-- which waiting cache the bus is granted to
unfoldable pub policy_row_of : Row → Option Policy
policy_row_of row = behind_name policy_of (codes "arbitration") row

-- whose cycle comes next
unfoldable pub turns_row_of : Row → Option Turns
turns_row_of row = behind_name turns_of (codes "turns") row

-- so many bytes of the image
unfoldable pub bytes_row_of : ℕ → Row → Option (List ℕ)
bytes_row_of size row = behind_name (bytes_of size) (codes "I") row

-- ---- accesses

-- whether a word starts there within so many bytes
abbrev pub is_address : ℕ → ℕ → Bool
is_address bytes addr = addr % 4 == 0 && nat_lt addr bytes

-- the address of a word within so many bytes
unfoldable pub address_of : ℕ → List ℕ → Option ℕ
address_of bytes text = word_of text >>= λ addr. if is_address bytes addr then Some addr else None

-- the words of an access, behind its core, its number, its kind and its address
unfoldable pub entry_words_of : ℕ → ℕ → Kind → ℕ → Row → Option Entry
entry_words_of core nth kind addr row = do
  old ← field_at word_of row
  new ← field_at optional_word_of old.1
  ended (record { core = core; nth = nth; kind = kind; addr = addr; old = old.0; new = new.0 }) new.1

-- the kind, the address and the words of an access, behind its core and its number
unfoldable pub entry_access_of : ℕ → ℕ → ℕ → Row → Option Entry
entry_access_of bytes core nth row = do
  kind ← field_at kind_of row
  addr ← field_at (address_of bytes) kind.1
  entry_words_of core nth kind.0 addr.0 addr.1

-- an access of one of so many cores, at a word within so many bytes
unfoldable pub entry_row_of : ℕ → ℕ → Row → Option Entry
entry_row_of cores bytes row = do
  title ← field_at (exactly (codes "A")) row
  core ← field_at (number_of (cores - 1)) title.1
  nth ← field_at (number_of 100002) core.1
  entry_access_of bytes core.0 nth.0 nth.1

-- ---- transactions

abbrev pub every_bit : List Bool
every_bit = true ∷ false ∷ []

-- the bit of this name
unfoldable pub bit_of : List ℕ → Option Bool
bit_of text = named (with_names bit_name every_bit) text

abbrev pub every_letter : List Letter
every_letter = letters.M ∷ letters.O ∷ letters.E ∷ letters.S ∷ letters.I ∷ []

-- the letter of this name
unfoldable pub letter_of : List ℕ → Option Letter
letter_of text = named (with_names letter_name every_letter) text

-- the 16 bits whose four lower-case hexadecimal digits the text is
unfoldable pub halfword_of : List ℕ → Option ℕ
halfword_of text = option_map (from_be_bytes w16) (bytes_of 2 text)

-- the other caches, the victim and the letter of a transaction, behind its master, its line and its intent
unfoldable pub transaction_caches_of : ℕ → ℕ → ℕ → ℕ → Bool → Row → Option Transaction
transaction_caches_of cores bytes master line im row = do
  ch ← field_at halfword_of row
  di ← field_at (optional_number_of (2 * cores - 1)) ch.1
  victim ← field_at (optional_number_of (bytes / 8 - 1)) di.1
  letter ← field_at letter_of victim.1
  ended (record { master = master; line = line; im = im; ch = ch.0; di = di.0; victim = victim.0; letter = letter.0 }) letter.1

-- a transaction of one of the two caches of so many cores, with lines within so many bytes
unfoldable pub transaction_row_of : ℕ → ℕ → Row → Option Transaction
transaction_row_of cores bytes row = do
  title ← field_at (exactly (codes "B")) row
  master ← field_at (number_of (2 * cores - 1)) title.1
  line ← field_at (number_of (bytes / 8 - 1)) master.1
  im ← field_at bit_of line.1
  transaction_caches_of cores bytes master.0 line.0 im.0 im.1

-- ---- items of a history

-- whether a row is one of the history
abbrev pub is_item : Row → Bool
is_item row = is_named (codes "A") row || is_named (codes "B") row

-- a transaction, which only a machine with a bus makes
abbrev pub bus_row_of : MachineKind → ℕ → ℕ → Row → Option Transaction
bus_row_of machine cores bytes row = if has_bus machine then transaction_row_of cores bytes row else None

-- an access, or a transaction
unfoldable pub item_row_of : MachineKind → ℕ → ℕ → Row → Option Item
item_row_of machine cores bytes row =
    if is_named (codes "B") row then option_map (λ bus. Bus bus) (bus_row_of machine cores bytes row)
    else option_map (λ entry. Done entry) (entry_row_of cores bytes row)

-- ---- ends of cores

-- the cycles, the instructions and the counters of a core, behind how it ended
unfoldable pub end_numbers_of : ℕ → End → Row → Option EndRow
end_numbers_of budget end row = do
  cycles ← field_at (number_of budget) row
  retired ← field_at (number_of 100002) cycles.1
  pc ← field_at word_of retired.1
  dpc ← field_at word_of pc.1
  ended (record { end = end; cycles = cycles.0; retired = retired.0; pc = pc.0; dpc = dpc.0 }) dpc.1

-- how a core ended within its budget, without its registers
unfoldable pub end_row_of : ℕ → ℕ → Row → Option EndRow
end_row_of budget core row = do
  title ← field_at (exactly (codes "C")) row
  key ← field_at (exactly (decimal core)) title.1
  end ← field_at end_of key.1
  end_numbers_of budget end.0 end.1

-- so many words, and nothing behind them
unfoldable pub words_of : ℕ → Row → Option (List ℕ)
words_of zero row = ended [] row
words_of (suc n) row = do
  word ← field_at word_of row
  others ← words_of n word.1
  Some (word.0 ∷ others)

-- eight registers of a core, from the first
unfoldable pub registers_row_of : ℕ → ℕ → Row → Option (List ℕ)
registers_row_of core first row = do
  title ← field_at (exactly (codes "R")) row
  key ← field_at (exactly (decimal core)) title.1
  from ← field_at (exactly (decimal first)) key.1
  words_of 8 from.1

-- ---- memory words

-- such an address, from a lowest one on
unfoldable pub address_from : ℕ → ℕ → List ℕ → Option ℕ
address_from bytes low text = address_of bytes text >>= λ addr. if nat_le low addr then Some addr else None

-- a word that isn't 0
unfoldable pub some_word_of : List ℕ → Option ℕ
some_word_of text = word_of text >>= λ n. if nat_le 1 n then Some n else None

-- a memory word that isn't 0, from a lowest address on
unfoldable pub memory_row_of : ℕ → ℕ → Row → Option MemoryWord
memory_row_of bytes low row = do
  title ← field_at (exactly (codes "W")) row
  addr ← field_at (address_from bytes low) title.1
  value ← field_at some_word_of addr.1
  ended (record { addr = addr.0; value = value.0 }) value.1

-- ---- counts

-- the count of this name
unfoldable pub count_row_of : List ℕ → Row → Option ℕ
count_row_of name row = do
  title ← field_at (exactly (codes "N")) row
  key ← field_at (exactly name) title.1
  n ← field_at (number_of (2 ^ 64 - 1)) key.1
  ended n.0 n.1

-- ---- timetables

-- a row of a timetable, and the number of its instruction
pub record NumberedRow : Type 0 where
  pub n : ℕ
  pub row : TimeRow

-- rows by their instructions, from a number on
abbrev pub numbered : ℕ → List TimeRow → List NumberedRow
numbered n [] = []
numbered n (row ∷ rows) = record { n = n; row = row } ∷ numbered (n + 1) rows

-- the number of the instruction behind that of a row
abbrev pub after_row : NumberedRow → ℕ
after_row it = it.n + 1

-- whether a row is one of the timetable of a core
abbrev pub is_timed : ℕ → Row → Bool
is_timed core [] = false
is_timed core (title ∷ []) = false
is_timed core (title ∷ key ∷ parts) = bytes_eq title (codes "T") && bytes_eq key (decimal core)

-- the cycles of the access and of the last stages, behind those of the first stages
unfoldable pub last_stages_of : ℕ → ℕ → ℕ → ℕ → Row → Option TimeRow
last_stages_of i f d e row = do
  a ← field_at (optional_number_of 100002) row
  m ← field_at (number_of 100002) a.1
  w ← field_at (optional_number_of 100002) m.1
  ended (record { i = i; f = f; d = d; e = e; a = a.0; m = m.0; w = w.0 }) w.1

-- the cycles of all stages
unfoldable pub stages_of : Row → Option TimeRow
stages_of row = do
  i ← field_at (number_of 100002) row
  f ← field_at (number_of 100002) i.1
  d ← field_at (number_of 100002) f.1
  e ← field_at (number_of 100002) d.1
  last_stages_of i.0 f.0 d.0 e.0 e.1

-- the row of instruction n, behind its name and its core, in a timetable of so many rows at most
unfoldable pub numbered_row_of : ℕ → ℕ → Row → Option NumberedRow
numbered_row_of most n row = do
  nth ← field_at (exactly (decimal n)) row
  stages ← stages_of nth.1
  if nat_lt n most then Some (record { n = n; row = stages }) else None

-- the row of instruction n of a core
unfoldable pub timed_row_of : ℕ → ℕ → ℕ → Row → Option NumberedRow
timed_row_of most core n row = do
  title ← field_at (exactly (codes "T")) row
  key ← field_at (exactly (decimal core)) title.1
  numbered_row_of most n key.1
