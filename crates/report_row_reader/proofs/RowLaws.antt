-- What is read of a row is what the row spells.
use Rattle.std.proofs.Common.{◌≡◌, ◌≢◌, ℕ, zero, suc, ◌-◌, ◌^◌, ◌<◌, ◌≤◌, List, [], ◌∷◌, length, map, decimal, Option, refl, sym, ap}
use Rattle.std.proofs.Common.{◌∙◌, subst, arith, Bool, true, false, cond, ◌*◌, ◌/◌}
use Rattle.std.specs.Prelude.{codes, IfSome, Some, None}
use Rattle.std.specs.List.{AllByRecursion}
use Rattle.std.specs.Option.{option_map}
use Rattle.std.proofs.lemmas.Option.{IfSome_then}
use Rattle.std_laws.proofs.OptionLaws.{option_map_parts}
use Rattle.kmp_base.specs.Text.{hex8}
use Rattle.kmp_base.specs.Names.{machine_name, policy_name, turns_name}
use Rattle.mips_isa.specs.declared.Kind.{Kind}
use Rattle.mips_isa.specs.declared.Kind.TheVariants.{Fetch}
use Rattle.kmp_base.specs.declared.setup.MachineKind.{MachineKind}
use Rattle.access_log.specs.declared.Entry.{Entry}
use Rattle.access_log.specs.declared.Letter.{Letter}
use Rattle.access_log.specs.declared.Transaction.{Transaction}
use Rattle.access_log.specs.declared.Item.{Item}
use Rattle.access_log.specs.declared.Item.TheVariants.{Done, Bus}
use Rattle.timetable.specs.declared.End.{End}
use Rattle.row_reader.specs.Rows.{Row, is_named}
use Rattle.row_reader.specs.Fields.{◌>>=◌, part_at, with_rest, field_at, ended}
use Rattle.row_reader.specs.Numbers.{exactly, word_of, number_of}
use Rattle.row_reader.proofs.PartLaws.{IsRow}
use Rattle.row_reader.proofs.FieldLaws.{IsField, bind_some, some_is, field_some, then_field, last_field, row_as}
use Rattle.row_reader.proofs.NumberLaws.{number_field, word_field, optional_field, exactly_field, bytes_field, optional_number_field}
use Rattle.report_rows.specs.declared.MemoryWord.{MemoryWord}
use Rattle.report_rows.specs.Bounds.{has_bus, IsWord, IsByte, IsTime, IsAddress, IsEntry, IsCache, IsLine, IsTransaction, IsItem}
use Rattle.report_rows.specs.Bounds.{IsMemoryWord, IsCount}
use Rattle.report_rows.specs.Rows.{text_row, number_row, bytes_row, entry_row, transaction_row, item_row, core_row, memory_row, count_row}
use Rattle.report_row_reader.specs.declared.read.EndRow.{EndRow}
use Rattle.report_row_reader.specs.Reading.{text_behind, behind_name, fixed_of, number_from, number_row_of, sets_row_of, machine_row_of}
use Rattle.report_row_reader.specs.Reading.{policy_row_of, turns_row_of, bytes_row_of, entry_row_of, entry_access_of, entry_words_of}
use Rattle.report_row_reader.specs.Reading.{transaction_row_of, transaction_caches_of, bus_row_of, item_row_of}
use Rattle.report_row_reader.specs.Reading.{end_row_of}
use Rattle.report_row_reader.specs.Reading.{end_numbers_of, words_of, registers_row_of, memory_row_of, count_row_of}
use Rattle.report_row_reader.proofs.ValueLaws.{field_as, machine_field, policy_field, turns_field, kind_field, end_field, from_field}
use Rattle.report_row_reader.proofs.ValueLaws.{sets_field, bit_field, letter_field, halfword_field}
use Rattle.report_row_reader.proofs.ValueLaws.{address_field, address_from_field, some_word_field}

-- ---- names

-- a part that is this text, and what follows it
pub then_name : {X : Type 0} (Fits : X → Type 0) (line : X → Row) (one : Row → Option X) (name : List ℕ) → IsRow Fits line one
    → IsRow Fits (λ x. name ∷ line x) (λ row. field_at (exactly name) row >>= λ title. one title.1)
then_name Fits line one name law = record {
  found = λ row x e.
      let title = bind_some (field_at (exactly name) row) (λ title. one title.1) x e in
      let here = field_some _ _ _ (exactly_field name) row title.0.1 title.0.0 title.1 in
      let others = law.found title.0.1 x title.2 in
      (others.0, here.1 ∙ ap (λ (r : Row). name ∷ r) others.1);
  again = λ x fits.
      ap (λ o. with_rest o (line x) >>= λ title. one title.1) ((exactly_field name).again tt tt) ∙ law.again x fits;
}

-- a row of one field
only_field : {X : Type 0} (Fits : X → Type 0) (spell : X → List ℕ) (one : List ℕ → Option X) → IsField Fits spell one
    → IsRow Fits (λ x. spell x ∷ []) (λ row. field_at one row >>= λ value. ended value.0 value.1)
only_field Fits spell one law =
    row_as (λ x. Unit {0} × (Fits x × Unit {0})) Fits (λ x. spell x ∷ []) (λ x. spell x ∷ [])
    (λ row. field_at one row >>= λ value. ended value.0 value.1)
    (λ x h. h.1.0) (λ x h. (tt, (h, tt))) (λ x. refl)
    (then_field _ _ _ (λ x. x) _ _ _ _ law (λ x _. last_field x _ (λ z k. sym k.0) (refl, tt)))

-- ---- rows that say one thing, or a name and a value

pub fixed_law : (parts : Row) → IsRow (λ (x : Unit {0}). Unit {0}) (λ x. parts) (fixed_of parts)
unfolding fixed_of
fixed_law [] = row_as (λ (x : Unit {0}). Unit {0} × Unit {0}) (λ x. Unit {0}) (λ x. []) (λ x. []) (fixed_of []) (λ x h. tt)
    (λ x h. (tt, tt)) (λ x. refl)
    (last_field tt (λ x. Unit {0}) (λ z k. refl) tt)
fixed_law (part ∷ parts) = then_name _ _ (fixed_of parts) part (fixed_law parts)

text_found : (row : Row) (text : List ℕ) → (part_at row >>= λ p. ended p.0 p.1) ≡ Some text → Unit {0} × (row ≡ text ∷ [])
text_found [] text e = absurd cc
text_found (part ∷ []) text e = (tt, ap (λ (t : List ℕ). t ∷ []) (some_is part text e))
text_found (part ∷ next ∷ parts) text e = absurd cc

text_law : (name : List ℕ) → IsRow (λ (text : List ℕ). Unit {0}) (λ text. name ∷ text ∷ []) (text_behind name)
text_law name = then_name _ (λ text. text ∷ []) _ name (record { found = text_found; again = λ text fits. refl })

-- a value behind a name
behind_law : {X : Type 0} (Fits : X → Type 0) (spell : X → List ℕ) (one : List ℕ → Option X) (name : List ℕ)
    → IsField Fits spell one → IsRow Fits (λ x. name ∷ spell x ∷ []) (behind_name one name)
behind_law Fits spell one name law = record {
  found = λ row x e.
      let text = bind_some (text_behind name row) one x e in
      let value = law.found text.0 x text.2 in
      (value.0, ((text_law name).found row text.0 text.1).1 ∙ ap (λ (t : List ℕ). name ∷ t ∷ []) value.1);
  again = λ x fits. ap (λ o. o >>= one) ((text_law name).again (spell x) tt) ∙ law.again x fits;
}

pub number_law : (name : List ℕ) (least most : ℕ) → most < 2 ^ 64
    → IsRow (λ n. (least ≤ n) × (n ≤ most)) (number_row name) (number_row_of name least most)
unfolding number_row_of
number_law name least most small =
    behind_law (λ n. (least ≤ n) × (n ≤ most)) decimal (number_from least most) name (from_field least most small)

pub sets_law : IsRow (λ n. ((k : ℕ) × (n ≡ 2 ^ k)) × (n ≤ 256)) (number_row (codes "sets")) sets_row_of
unfolding sets_row_of
sets_law = behind_law _ _ _ (codes "sets") sets_field

pub machine_law : IsRow (λ machine. Unit {0}) (λ machine. text_row (codes "machine") (machine_name machine)) machine_row_of
unfolding machine_row_of
machine_law = behind_law _ _ _ (codes "machine") machine_field

pub policy_law : IsRow (λ p. Unit {0}) (λ p. text_row (codes "arbitration") (policy_name p)) policy_row_of
unfolding policy_row_of
policy_law = behind_law _ _ _ (codes "arbitration") policy_field

pub turns_law : IsRow (λ p. Unit {0}) (λ p. text_row (codes "turns") (turns_name p)) turns_row_of
unfolding turns_row_of
turns_law = behind_law _ _ _ (codes "turns") turns_field

pub bytes_law : (size : ℕ) → IsRow (λ bytes. (length bytes ≡ size) × AllByRecursion IsByte bytes) bytes_row (bytes_row_of size)
unfolding bytes_row_of
bytes_law size = behind_law _ _ _ (codes "I") (bytes_field size)

-- ---- an access

-- an entry is its fields
make_entry : ℕ → ℕ → Kind → ℕ → ℕ → Option ℕ → Entry
make_entry core nth kind addr old new = record { core = core; nth = nth; kind = kind; addr = addr; old = old; new = new }

make_entry_is : (z : Entry) → make_entry z.core z.nth z.kind z.addr z.old z.new ≡ z
unfolding make_entry
make_entry_is z = refl

entry_is : (z : Entry) (core nth : ℕ) (kind : Kind) (addr old : ℕ) (new : Option ℕ)
    → z.core ≡ core → z.nth ≡ nth → z.kind ≡ kind → z.addr ≡ addr → z.old ≡ old → z.new ≡ new → make_entry core nth kind addr old new ≡ z
entry_is z core nth kind addr old new a b c d e f = let g = make_entry_is z in cc

abbrev EntryFields : ℕ → ℕ → Entry → Type 0
EntryFields cores bytes z =
    Unit {0} × ((z.core ≤ cores - 1)
    × (IsTime z.nth × ((z.kind ≢ Fetch) × (IsAddress bytes z.addr × (IsWord z.old × (IfSome z.new IsWord × Unit {0}))))))

entry_fields : (cores bytes : ℕ) → cores ≤ 8 → bytes ≤ 2 ^ 32 → IsRow (EntryFields cores bytes) entry_row (entry_row_of cores bytes)
unfolding entry_row_of entry_access_of entry_words_of make_entry
entry_fields cores bytes few fits =
    then_name _ _ _ (codes "A") (
    then_field _ _ _ (λ z. z.core) _ _ _ _ (number_field (cores - 1) (omega arith)) (λ core _.
    then_field _ _ _ (λ z. z.nth) _ _ _ _ (number_field 100002 (omega arith)) (λ nth _.
    then_field _ _ _ (λ z. z.kind) _ _ _ _ kind_field (λ kind _.
    then_field _ _ _ (λ z. z.addr) _ _ _ _ (address_field bytes fits) (λ addr _.
    then_field _ _ _ (λ z. z.old) _ _ _ _ word_field (λ old _.
    then_field _ _ _ (λ z. z.new) _ _ _ _ optional_field (λ new _.
    last_field (record { core = core; nth = nth; kind = kind; addr = addr; old = old; new = new }) _
    (λ z k. entry_is z core nth kind addr old new k.1.1.1.1.1.0 k.1.1.1.1.0 k.1.1.1.0 k.1.1.0 k.1.0 k.0)
    (refl, (refl, (refl, (refl, (refl, (refl, tt)))))))))))))

pub entry_law : (cores bytes : ℕ) → 1 ≤ cores → cores ≤ 8 → bytes ≤ 2 ^ 32
    → IsRow (IsEntry cores bytes) entry_row (entry_row_of cores bytes)
entry_law cores bytes some few fits =
    row_as (EntryFields cores bytes) (IsEntry cores bytes) entry_row entry_row (entry_row_of cores bytes)
    (λ z h. record {
      core = omega (arith, some, h.1.0);
      nth = h.1.1.0;
      kind = h.1.1.1.0;
      addr = h.1.1.1.1.0;
      old = h.1.1.1.1.1.0;
      new = h.1.1.1.1.1.1.0;
    })
    (λ z i. (tt, (omega (arith, i.core), (i.nth, (i.kind, (i.addr, (i.old, (i.new, tt))))))))
    (λ z. refl) (entry_fields cores bytes few fits)

-- ---- a transaction

-- a transaction is its fields
make_transaction : ℕ → ℕ → Bool → ℕ → Option ℕ → Option ℕ → Letter → Transaction
make_transaction master line im ch di victim letter =
    record { master = master; line = line; im = im; ch = ch; di = di; victim = victim; letter = letter }

make_transaction_is : (z : Transaction) → make_transaction z.master z.line z.im z.ch z.di z.victim z.letter ≡ z
unfolding make_transaction
make_transaction_is z = refl

transaction_is : (z : Transaction) (master line : ℕ) (im : Bool) (ch : ℕ) (di victim : Option ℕ) (letter : Letter)
    → z.master ≡ master → z.line ≡ line → z.im ≡ im → z.ch ≡ ch → z.di ≡ di → z.victim ≡ victim → z.letter ≡ letter
    → make_transaction master line im ch di victim letter ≡ z
transaction_is z master line im ch di victim letter a b c d e f g = let all = make_transaction_is z in cc

abbrev UpTo : ℕ → ℕ → Type 0
UpTo most n = n ≤ most

abbrev TransactionFields : ℕ → ℕ → Transaction → Type 0
TransactionFields cores bytes z =
    Unit {0} × (UpTo (2 * cores - 1) z.master × (UpTo (bytes / 8 - 1) z.line × (Unit {0} × ((z.ch < 2 ^ 16)
    × (IfSome z.di (UpTo (2 * cores - 1)) × (IfSome z.victim (UpTo (bytes / 8 - 1)) × (Unit {0} × Unit {0})))))))

transaction_fields : (cores bytes : ℕ) → cores ≤ 8 → bytes ≤ 2 ^ 32
    → IsRow (TransactionFields cores bytes) transaction_row (transaction_row_of cores bytes)
unfolding transaction_row_of transaction_caches_of make_transaction
transaction_fields cores bytes few fits =
    let lines : bytes / 8 - 1 < 2 ^ 64 = omega (arith, fits) in
    then_name _ _ _ (codes "B") (
    then_field _ _ _ (λ z. z.master) _ _ _ _ (number_field (2 * cores - 1) (omega arith)) (λ master _.
    then_field _ _ _ (λ z. z.line) _ _ _ _ (number_field (bytes / 8 - 1) lines) (λ line _.
    then_field _ _ _ (λ z. z.im) _ _ _ _ bit_field (λ im _.
    then_field _ _ _ (λ z. z.ch) _ _ _ _ halfword_field (λ ch _.
    then_field _ _ _ (λ z. z.di) _ _ _ _ (optional_number_field (2 * cores - 1) (omega arith)) (λ di _.
    then_field _ _ _ (λ z. z.victim) _ _ _ _ (optional_number_field (bytes / 8 - 1) lines) (λ victim _.
    then_field _ _ _ (λ z. z.letter) _ _ _ _ letter_field (λ letter _.
    last_field
    (record { master = master; line = line; im = im; ch = ch; di = di; victim = victim; letter = letter }) _
    (λ z k. transaction_is z master line im ch di victim letter k.1.1.1.1.1.1.0 k.1.1.1.1.1.0 k.1.1.1.1.0 k.1.1.1.0 k.1.1.0 k.1.0 k.0)
    (refl, (refl, (refl, (refl, (refl, (refl, (refl, tt)))))))))))))))

pub transaction_law : (cores bytes : ℕ) → 1 ≤ cores → cores ≤ 8 → 8 ≤ bytes → bytes ≤ 2 ^ 32
    → IsRow (IsTransaction cores bytes) transaction_row (transaction_row_of cores bytes)
transaction_law cores bytes some few a_line fits =
    let to_cache : (n : ℕ) → UpTo (2 * cores - 1) n → IsCache cores n = λ n h. omega (arith, some, h) in
    let from_cache : (n : ℕ) → IsCache cores n → UpTo (2 * cores - 1) n = λ n h. omega (arith, h) in
    let to_line : (n : ℕ) → UpTo (bytes / 8 - 1) n → IsLine bytes n = λ n h. omega (arith, a_line, h) in
    let from_line : (n : ℕ) → IsLine bytes n → UpTo (bytes / 8 - 1) n = λ n h. omega (arith, h) in
    row_as (TransactionFields cores bytes) (IsTransaction cores bytes) transaction_row transaction_row (transaction_row_of cores bytes)
    (λ z h. record {
      master = to_cache z.master h.1.0;
      line = to_line z.line h.1.1.0;
      ch = h.1.1.1.1.0;
      di = IfSome_then z.di h.1.1.1.1.1.0 to_cache;
      victim = IfSome_then z.victim h.1.1.1.1.1.1.0 to_line;
    })
    (λ z i. (
      tt,
      (
        from_cache z.master i.master,
        (
          from_line z.line i.line,
          (tt, (i.ch, (IfSome_then z.di i.di from_cache, (IfSome_then z.victim i.victim from_line, (tt, tt))))),
        ),
      ),
    ))
    (λ z. refl) (transaction_fields cores bytes few fits)

-- ---- an item of a history

-- an item of a machine with these bounds, and the row of it
abbrev IsItemAs : MachineKind → ℕ → ℕ → Row → Item → Type 0
IsItemAs machine cores bytes row item = IsItem machine cores bytes item × (row ≡ item_row item)

module _ (machine : MachineKind) (cores bytes : ℕ) (some : 1 ≤ cores) (few : cores ≤ 8) (a_line : 8 ≤ bytes) (fits : bytes ≤ 2 ^ 32) where
  bus_found : (row : Row) (bus : Transaction) (b : Bool) → has_bus machine ≡ b → cond b (transaction_row_of cores bytes row) None ≡ Some bus
      → IsItemAs machine cores bytes row (Bus bus)
  bus_found row bus true is e =
      let f = (transaction_law cores bytes some few a_line fits).found row bus e in
      ((is, f.0), f.1)
  bus_found row bus false is e = absurd cc

  item_found : (row : Row) (item : Item) (is_bus : Bool)
      → cond is_bus (option_map (λ bus. Bus bus) (bus_row_of machine cores bytes row))
      (option_map (λ entry. Done entry) (entry_row_of cores bytes row))
      ≡ Some item
      → IsItemAs machine cores bytes row item
  item_found row item true e =
      let parts = option_map_parts (λ bus. Bus bus) (bus_row_of machine cores bytes row) item e in
      subst (IsItemAs machine cores bytes row) parts.2 (bus_found row parts.0 (has_bus machine) refl parts.1)
  item_found row item false e =
      let parts = option_map_parts (λ entry. Done entry) (entry_row_of cores bytes row) item e in
      let f = (entry_law cores bytes some few fits).found row parts.0 parts.1 in
      subst (IsItemAs machine cores bytes row) parts.2 (f.0, f.1)

  item_again : (item : Item) → IsItem machine cores bytes item → item_row_of machine cores bytes (item_row item) ≡ Some item
  unfolding item_row_of
  item_again (Done entry) is = ap (option_map (λ entry. Done entry)) ((entry_law cores bytes some few fits).again entry is)
  item_again (Bus bus) is =
      ap (λ b. option_map (λ bus. Bus bus) (cond b (transaction_row_of cores bytes (transaction_row bus)) None)) is.0
      ∙ ap (option_map (λ bus. Bus bus)) ((transaction_law cores bytes some few a_line fits).again bus is.1)

  pub item_law : IsRow (IsItem machine cores bytes) item_row (item_row_of machine cores bytes)
  unfolding item_row_of
  item_law = record { found = λ row item e. item_found row item (is_named (codes "B") row) e; again = item_again }

-- ---- how a core ended

-- the end of a core within its budget, without its registers
pub record IsEndRow (budget : ℕ) (row : EndRow) : Type 0 where
  pub cycles : row.cycles ≤ budget
  pub retired : IsTime row.retired
  pub pc : IsWord row.pc
  pub dpc : IsWord row.dpc

-- the row of a core that ended so; it tells no registers
abbrev pub end_parts : ℕ → EndRow → Row
end_parts core row = core_row core (record {
  end = row.end;
  cycles = row.cycles;
  retired = row.retired;
  state = record { pc = row.pc; dpc = row.dpc; regs = [] };
  rows = [];
})

make_end : End → ℕ → ℕ → ℕ → ℕ → EndRow
make_end end cycles retired pc dpc = record { end = end; cycles = cycles; retired = retired; pc = pc; dpc = dpc }

make_end_is : (z : EndRow) → make_end z.end z.cycles z.retired z.pc z.dpc ≡ z
unfolding make_end
make_end_is z = refl

end_is : (z : EndRow) (end : End) (cycles retired pc dpc : ℕ)
    → z.end ≡ end → z.cycles ≡ cycles → z.retired ≡ retired → z.pc ≡ pc → z.dpc ≡ dpc → make_end end cycles retired pc dpc ≡ z
end_is z end cycles retired pc dpc a b c d e = let g = make_end_is z in cc

abbrev EndFields : ℕ → EndRow → Type 0
EndFields budget z =
    Unit {0} × (Unit {0} × ((z.cycles ≤ budget) × (IsTime z.retired × (IsWord z.pc × (IsWord z.dpc × Unit {0})))))

end_fields : (budget core : ℕ) → budget < 2 ^ 64 → IsRow (EndFields budget) (end_parts core) (end_row_of budget core)
unfolding end_row_of end_numbers_of make_end
end_fields budget core small =
    then_name _ _ _ (codes "C") (then_name _ _ _ (decimal core) (
    then_field _ _ _ (λ z. z.end) _ _ _ _ end_field (λ end _.
    then_field _ _ _ (λ z. z.cycles) _ _ _ _ (number_field budget small) (λ cycles _.
    then_field _ _ _ (λ z. z.retired) _ _ _ _ (number_field 100002 (omega arith)) (λ retired _.
    then_field _ _ _ (λ z. z.pc) _ _ _ _ word_field (λ pc _.
    then_field _ _ _ (λ z. z.dpc) _ _ _ _ word_field (λ dpc _.
    last_field (record { end = end; cycles = cycles; retired = retired; pc = pc; dpc = dpc }) _
    (λ z k. end_is z end cycles retired pc dpc k.1.1.1.1.0 k.1.1.1.0 k.1.1.0 k.1.0 k.0)
    (refl, (refl, (refl, (refl, (refl, tt))))))))))))

pub end_law : (budget core : ℕ) → budget < 2 ^ 64 → IsRow (IsEndRow budget) (end_parts core) (end_row_of budget core)
end_law budget core small =
    row_as (EndFields budget) (IsEndRow budget) (end_parts core) (end_parts core) (end_row_of budget core)
    (λ z h. record { cycles = h.1.1.0; retired = h.1.1.1.0; pc = h.1.1.1.1.0; dpc = h.1.1.1.1.1.0 })
    (λ z i. (tt, (tt, (i.cycles, (i.retired, (i.pc, (i.dpc, tt)))))))
    (λ z. refl) (end_fields budget core small)

-- ---- registers

abbrev AreWords : ℕ → List ℕ → Type 0
AreWords n words = (length words ≡ n) × AllByRecursion IsWord words

words_found : (n : ℕ) (row : Row) (words : List ℕ) → words_of n row ≡ Some words → AreWords n words × (row ≡ map hex8 words)
unfolding words_of
words_found zero [] words e = subst (λ ws. AreWords 0 ws × ([] ≡ map hex8 ws)) (some_is [] words e) ((refl, tt), refl)
words_found zero (part ∷ parts) words e = absurd cc
words_found (suc n) row words e =
    let first = bind_some (field_at word_of row) (λ word. words_of n word.1 >>= λ others. Some (word.0 ∷ others)) words e in
    let others = bind_some (words_of n first.0.1) (λ others. Some (first.0.0 ∷ others)) words first.2 in
    let here = field_some IsWord hex8 word_of word_field row first.0.1 first.0.0 first.1 in
    let more = words_found n first.0.1 others.0 others.1 in
    subst (λ ws. AreWords (suc n) ws × (row ≡ map hex8 ws)) (some_is (first.0.0 ∷ others.0) words others.2)
    ((ap suc more.0.0, (here.0, more.0.1)), here.1 ∙ ap (λ (r : Row). hex8 first.0.0 ∷ r) more.1)

words_again : (n : ℕ) (words : List ℕ) → AreWords n words → words_of n (map hex8 words) ≡ Some words
unfolding words_of
words_again zero [] are = refl
words_again zero (word ∷ words) are = absurd (omega (arith, are.0))
words_again (suc n) [] are = absurd (omega (arith, are.0))
words_again (suc n) (word ∷ words) are =
    ap (λ o. with_rest o (map hex8 words) >>= λ first. words_of n first.1 >>= λ others. Some (first.0 ∷ others))
    (word_field.again word are.1.0)
    ∙ ap (λ o. o >>= λ others. Some (word ∷ others)) (words_again n words (omega (arith, are.0), are.1.1))

words_law : (n : ℕ) → IsRow (AreWords n) (map hex8) (words_of n)
words_law n = record { found = words_found n; again = words_again n }

pub registers_law : (core first : ℕ)
    → IsRow (λ regs. (length regs ≡ 8) × AllByRecursion IsWord regs) (λ regs. codes "R" ∷ decimal core ∷ decimal first ∷ map hex8 regs)
    (registers_row_of core first)
unfolding registers_row_of
registers_law core first =
    then_name _ _ _ (codes "R") (then_name _ _ _ (decimal core) (then_name _ _ (words_of 8) (decimal first) (words_law 8)))

-- ---- a memory word

make_word : ℕ → ℕ → MemoryWord
make_word addr value = record { addr = addr; value = value }

make_word_is : (z : MemoryWord) → make_word z.addr z.value ≡ z
unfolding make_word
make_word_is z = refl

word_is : (z : MemoryWord) (addr value : ℕ) → z.addr ≡ addr → z.value ≡ value → make_word addr value ≡ z
word_is z addr value a b = let g = make_word_is z in cc

abbrev WordFields : ℕ → ℕ → MemoryWord → Type 0
WordFields bytes low z = Unit {0} × ((IsAddress bytes z.addr × (low ≤ z.addr)) × ((IsWord z.value × (1 ≤ z.value)) × Unit {0}))

word_fields : (bytes low : ℕ) → bytes ≤ 2 ^ 32 → IsRow (WordFields bytes low) memory_row (memory_row_of bytes low)
unfolding memory_row_of make_word
word_fields bytes low fits =
    then_name _ _ _ (codes "W") (
    then_field _ _ _ (λ z. z.addr) _ _ _ _ (address_from_field bytes low fits) (λ addr _.
    then_field _ _ _ (λ z. z.value) _ _ _ _ some_word_field (λ value _.
    last_field (record { addr = addr; value = value }) _ (λ z k. word_is z addr value k.1.0 k.0) (refl, (refl, tt)))))

pub memory_law : (bytes low : ℕ) → bytes ≤ 2 ^ 32 → IsRow (IsMemoryWord bytes low) memory_row (memory_row_of bytes low)
memory_law bytes low fits =
    row_as (WordFields bytes low) (IsMemoryWord bytes low) memory_row memory_row (memory_row_of bytes low)
    (λ z h. record { addr = h.1.0.0; from = h.1.0.1; some = h.1.1.0.1; value = h.1.1.0.0 })
    (λ z i. (tt, ((i.addr, i.from), ((i.value, i.some), tt)))) (λ z. refl) (word_fields bytes low fits)

-- ---- a count

count_field : IsField IsCount decimal (number_of (2 ^ 64 - 1))
count_field =
    field_as (λ n. n ≤ 2 ^ 64 - 1) IsCount decimal (number_of (2 ^ 64 - 1)) (λ n h. omega (arith, h)) (λ n h. omega (arith, h))
    (number_field (2 ^ 64 - 1) (omega arith))

pub count_law : (name : List ℕ) → IsRow IsCount (count_row name) (count_row_of name)
unfolding count_row_of
count_law name = then_name _ _ _ (codes "N") (then_name _ _ _ name (only_field _ _ _ count_field))
