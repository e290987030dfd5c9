-- The rows of a report are plain, so they can be told from its text.
use Rattle.std.proofs.Common.{◌≡◌, ℕ, zero, suc, ◌+◌, ◌*◌, ◌/◌, ◌^◌, ◌<◌, ◌≤◌, Bool, true, false, length, List, [], ◌∷◌, ◌++◌, take, drop}
use Rattle.std.proofs.Common.{map, refl, arith}
use Rattle.std.specs.Int.{w16, to_be_bytes}
use Rattle.std.specs.Prelude.{codes, slice_index, slice_index_or, Option, None, Some, IfSome}
use Rattle.std.specs.List.{AllByRecursion}
use Rattle.kmp_base.specs.Text.{hex8}
use Rattle.kmp_base.specs.declared.setup.Setup.{Setup}
use Rattle.kmp_base.specs.declared.setup.MachineKind.{MachineKind}
use Rattle.kmp_base.specs.declared.setup.MachineKind.TheVariants as machines
use Rattle.kmp_base.specs.declared.setup.Policy.{Policy}
use Rattle.kmp_base.specs.declared.setup.Policy.TheVariants as policies
use Rattle.kmp_base.specs.declared.setup.Turns.{Turns}
use Rattle.kmp_base.specs.declared.setup.Turns.TheVariants as turns
use Rattle.mips_isa.specs.declared.Kind.{Kind}
use Rattle.mips_isa.specs.declared.Kind.TheVariants as kinds
use Rattle.mips_isa.specs.declared.Stop.TheVariants as stops
use Rattle.access_log.specs.declared.Entry.{Entry}
use Rattle.access_log.specs.declared.Letter.{Letter}
use Rattle.access_log.specs.declared.Letter.TheVariants as letters
use Rattle.access_log.specs.declared.Transaction.{Transaction}
use Rattle.access_log.specs.declared.Item.{Item}
use Rattle.access_log.specs.declared.Item.TheVariants.{Done, Bus}
use Rattle.timetable.specs.declared.End.{End}
use Rattle.timetable.specs.declared.rows.TimeRow.{TimeRow}
use Rattle.timetable.specs.declared.End.TheVariants as ends
use Rattle.row_reader.specs.Rows.{IsPlain, IsPlainRow}
use Rattle.row_reader.proofs.PlainLaws.{passes, plain_by_test, decimal_plain, hex8_plain, bytes_plain, word_or_dash_plain}
use Rattle.row_reader.proofs.PlainLaws.{number_or_dash_plain}
use Rattle.row_reader.specs.Numbers.{number_or_dash}
use Rattle.report_rows.specs.declared.MemoryWord.{MemoryWord}
use Rattle.report_rows.specs.Ends.{EndValue}
use Rattle.kmp_base.specs.Names.{machine_name, policy_name, turns_name}
use Rattle.mips_isa.specs.Names.{kind_name}
use Rattle.timetable.specs.Names.{end_name}
use Rattle.access_log.specs.Names.{letter_name}
use Rattle.report_rows.specs.Names.{bit_name, count_names}
use Rattle.report_rows.specs.Bounds.{IsTime, IsHeader, IsEntry, IsTransaction, IsItem, AreTimes, IsEnd, IsCount}
use Rattle.report_rows.specs.Rows.{text_row, number_row, bytes_row, entry_row, transaction_row, item_row, core_row, registers_row, memory_row}
use Rattle.report_rows.specs.Rows.{count_row_at}
use Rattle.report_rows.specs.Rows.{timed_row, rows_of_each, timetable_rows}
use Rattle.report_rows.specs.Rows.{header_rows, core_rows, access_count_rows, bus_count_rows, wait_count_rows}

-- ---- names

machine_passes : (machine : MachineKind) → passes (machine_name machine) ≡ true
machine_passes machines.Plain = refl
machine_passes machines.Pipe = refl
machine_passes machines.Full = refl

policy_passes : (policy : Policy) → passes (policy_name policy) ≡ true
policy_passes policies.Fifo = refl
policy_passes policies.Fixed = refl
policy_passes policies.Round = refl
policy_passes policies.Seeded = refl

turns_passes : (order : Turns) → passes (turns_name order) ≡ true
turns_passes turns.Round = refl
turns_passes turns.Seeded = refl
turns_passes turns.Threads = refl

kind_passes : (kind : Kind) → passes (kind_name kind) ≡ true
kind_passes kinds.Fetch = refl
kind_passes kinds.Lw = refl
kind_passes kinds.Sw = refl
kind_passes kinds.Cas = refl

bit_passes : (bit : Bool) → passes (bit_name bit) ≡ true
bit_passes true = refl
bit_passes false = refl

letter_passes : (letter : Letter) → passes (letter_name letter) ≡ true
letter_passes letters.M = refl
letter_passes letters.O = refl
letter_passes letters.E = refl
letter_passes letters.S = refl
letter_passes letters.I = refl

end_passes : (end : End) → passes (end_name end) ≡ true
end_passes (ends.Stopped stops.OffCode) = refl
end_passes (ends.Stopped stops.Halt) = refl
end_passes (ends.Stopped stops.Misaligned) = refl
end_passes (ends.Stopped stops.Outside) = refl
end_passes (ends.Stopped stops.CodeWrite) = refl
end_passes ends.Spent = refl

-- ---- single rows

text_row_plain : (name word : List ℕ) → passes name ≡ true → passes word ≡ true → IsPlainRow (text_row name word)
text_row_plain name word n w = (plain_by_test name n, (plain_by_test word w, tt))

pub number_row_plain : (name : List ℕ) (n : ℕ) → IsPlain name → n < 2 ^ 64 → IsPlainRow (number_row name n)
number_row_plain name n is small = (is, (decimal_plain n small, tt))

pub bytes_row_plain : (bytes : List ℕ) → IsPlainRow (bytes_row bytes)
bytes_row_plain bytes = (plain_by_test (codes "I") refl, (bytes_plain bytes, tt))

pub entry_plain : (cores bytes : ℕ) (entry : Entry) → cores ≤ 8 → IsEntry cores bytes entry → IsPlainRow (entry_row entry)
entry_plain cores bytes entry few is = (
  plain_by_test (codes "A") refl,
  (
    decimal_plain entry.core (omega (arith, is.core)),
    (
      decimal_plain entry.nth (omega (arith, is.nth)),
      (
        plain_by_test (kind_name entry.kind) (kind_passes entry.kind),
        (hex8_plain entry.addr, (hex8_plain entry.old, (word_or_dash_plain entry.new, tt))),
      ),
    ),
  ),
)

number_below : (most : ℕ) (x : Option ℕ) → most ≤ 2 ^ 64 → IfSome x (λ n. n < most) → IsPlain (number_or_dash x)
number_below most None small fits = number_or_dash_plain None tt
number_below most (Some n) small fits = number_or_dash_plain (Some n) (omega (arith, fits))

transaction_plain : (cores bytes : ℕ) (bus : Transaction) → cores ≤ 8 → bytes ≤ 2 ^ 32 → IsTransaction cores bytes bus
    → IsPlainRow (transaction_row bus)
transaction_plain cores bytes bus few small is = (
  plain_by_test (codes "B") refl,
  (
    decimal_plain bus.master (omega (arith, is.master)),
    (
      decimal_plain bus.line (omega (arith, is.line)),
      (
        plain_by_test (bit_name bus.im) (bit_passes bus.im),
        (
          bytes_plain (to_be_bytes w16 bus.ch),
          (
            number_below (2 * cores) bus.di (omega arith) is.di,
            (
              number_below (bytes / 8) bus.victim (omega arith) is.victim,
              (plain_by_test (letter_name bus.letter) (letter_passes bus.letter), tt),
            ),
          ),
        ),
      ),
    ),
  ),
)

pub item_plain : (machine : MachineKind) (cores bytes : ℕ) (item : Item) → cores ≤ 8 → bytes ≤ 2 ^ 32 → IsItem machine cores bytes item
    → IsPlainRow (item_row item)
item_plain machine cores bytes (Done entry) few small is = entry_plain cores bytes entry few is
item_plain machine cores bytes (Bus transaction) few small is = transaction_plain cores bytes transaction few small is.1

pub memory_plain : (word : MemoryWord) → IsPlainRow (memory_row word)
memory_plain word = (plain_by_test (codes "W") refl, (hex8_plain word.addr, (hex8_plain word.value, tt)))

-- ---- rows that stand together

pub header_plain : (setup : Setup) → IsHeader setup → AllByRecursion IsPlainRow (header_rows setup)
unfolding header_rows
header_plain setup is = (
  text_row_plain (codes "kmp-report") (codes "1") refl refl,
  (
    text_row_plain (codes "machine") (machine_name setup.machine) refl (machine_passes setup.machine),
    (
      number_row_plain (codes "cores") setup.cores (plain_by_test (codes "cores") refl) (omega (arith, is.limits.cores)),
      (
        number_row_plain (codes "budget") setup.budget (plain_by_test (codes "budget") refl) (omega (arith, is.limits.budget)),
        (
          text_row_plain (codes "arbitration") (policy_name setup.policy) refl (policy_passes setup.policy),
          (
            text_row_plain (codes "turns") (turns_name setup.turns) refl (turns_passes setup.turns),
            (
              number_row_plain (codes "seed") setup.seed (plain_by_test (codes "seed") refl) (omega (arith, is.seed)),
              (
                number_row_plain (codes "sets") setup.sets (plain_by_test (codes "sets") refl) (omega (arith, is.limits.sets)),
                (
                  number_row_plain (codes "ways") setup.ways (plain_by_test (codes "ways") refl) (omega (arith, is.limits.ways)),
                  tt,
                ),
              ),
            ),
          ),
        ),
      ),
    ),
  ),
)

words_plain : (words : List ℕ) → AllByRecursion IsPlain (map hex8 words)
words_plain [] = tt
words_plain (word ∷ words) = (hex8_plain word, words_plain words)

registers_plain : (core first : ℕ) (regs : List ℕ) → core < 2 ^ 64 → first < 2 ^ 64 → IsPlainRow (registers_row core first regs)
registers_plain core first regs small early =
    (plain_by_test (codes "R") refl, (decimal_plain core small, (decimal_plain first early, words_plain (take 8 (drop first regs)))))

pub core_rows_plain : (core budget most : ℕ) (ended : EndValue) → core < 2 ^ 64 → budget < 2 ^ 64 → IsEnd budget most ended
    → AllByRecursion IsPlainRow (core_rows core ended)
unfolding core_rows
core_rows_plain core budget most ended small few is =
    let row : IsPlainRow (core_row core ended) = (
      plain_by_test (codes "C") refl,
      (
        decimal_plain core small,
        (
          plain_by_test (end_name ended.end) (end_passes ended.end),
          (
            decimal_plain ended.cycles (omega (arith, is.cycles)),
            (decimal_plain ended.retired (omega (arith, is.retired)), (hex8_plain ended.state.pc, (hex8_plain ended.state.dpc, tt))),
          ),
        ),
      ),
    ) in (
      row,
      (
        registers_plain core 0 ended.state.regs small (omega arith),
        (
          registers_plain core 8 ended.state.regs small (omega arith),
          (
            registers_plain core 16 ended.state.regs small (omega arith),
            (registers_plain core 24 ended.state.regs small (omega arith), tt),
          ),
        ),
      ),
    )

time_or_dash_plain : (x : Option ℕ) → IfSome x IsTime → IsPlain (number_or_dash x)
time_or_dash_plain None fits = number_or_dash_plain None tt
time_or_dash_plain (Some n) fits = number_or_dash_plain (Some n) (omega (arith, fits))

timed_plain : (core n : ℕ) (row : TimeRow) → core < 2 ^ 64 → n < 2 ^ 64 → AreTimes row → IsPlainRow (timed_row core n row)
timed_plain core n row small early are = (
  plain_by_test (codes "T") refl,
  (
    decimal_plain core small,
    (
      decimal_plain n early,
      (
        decimal_plain row.i (omega (arith, are.i)),
        (
          decimal_plain row.f (omega (arith, are.f)),
          (
            decimal_plain row.d (omega (arith, are.d)),
            (
              decimal_plain row.e (omega (arith, are.e)),
              (
                time_or_dash_plain row.a are.a,
                (decimal_plain row.m (omega (arith, are.m)), (time_or_dash_plain row.w are.w, tt)),
              ),
            ),
          ),
        ),
      ),
    ),
  ),
)

timed_rows_plain : (core n : ℕ) (rows : List TimeRow) → core < 2 ^ 64 → n + length rows < 2 ^ 64 → AllByRecursion AreTimes rows
    → AllByRecursion IsPlainRow (rows_of_each (λ n row. timed_row core n row ∷ []) n rows)
timed_rows_plain core n [] small few are = tt
timed_rows_plain core n (row ∷ rows) small few are =
    (timed_plain core n row small (omega arith) are.0, timed_rows_plain core (n + 1) rows small (omega arith) are.1)

pub timetable_plain : (core budget most : ℕ) (ended : EndValue) → core < 2 ^ 64 → most < 2 ^ 64 → IsEnd budget most ended
    → AllByRecursion IsPlainRow (timetable_rows core ended.rows)
timetable_plain core budget most ended small few is = timed_rows_plain core 0 ended.rows small (omega (arith, is.few_rows)) is.times

count_at : (counts : List ℕ) → AllByRecursion IsCount counts → (k : ℕ) → IsCount (slice_index counts k)
count_at [] are k = omega arith
count_at (count ∷ counts) are zero = are.0
count_at (count ∷ counts) are (suc k) = count_at counts are.1 k

count_row_plain : (counts : List ℕ) (k : ℕ) → passes (slice_index_or count_names k []) ≡ true → AllByRecursion IsCount counts
    → IsPlainRow (count_row_at counts k)
count_row_plain counts k plain are = (
  plain_by_test (codes "N") refl,
  (plain_by_test (slice_index_or count_names k []) plain, (decimal_plain (slice_index counts k) (count_at counts are k), tt)),
)

pub count_rows_plain : (counts : List ℕ) → AllByRecursion IsCount counts
    → AllByRecursion IsPlainRow (access_count_rows counts ++ bus_count_rows counts ++ wait_count_rows counts)
unfolding access_count_rows bus_count_rows wait_count_rows
count_rows_plain counts are = (
  row 0 refl,
  (
    row 1 refl,
    (
      row 2 refl,
      (
        row 3 refl,
        (
          row 4 refl,
          (
            row 5 refl,
            (row 6 refl, (row 7 refl, (row 8 refl, (row 9 refl, (row 10 refl, (row 11 refl, (row 12 refl, tt))))))),
          ),
        ),
      ),
    ),
  ),
)
  where
    row : (k : ℕ) → passes (slice_index_or count_names k []) ≡ true → IsPlainRow (count_row_at counts k)
    row k plain = count_row_plain counts k plain are
