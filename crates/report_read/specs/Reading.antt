-- What is read of the rows of a report, from the front: a value and the rows behind it, or the rows at which reading is
-- stuck.
use Rattle.std.specs.Prelude.{ℕ, zero, suc, ◌+◌, ◌-◌, ◌*◌, ◌/◌, ◌^◌, List, [], ◌∷◌, ◌++◌, length, map, codes, Option, Some, None, Result}
use Rattle.std.specs.Prelude.{Ok, Err, if◌then◌else◌}
use Rattle.std.specs.List.{range_with_len}
use Rattle.kmp_base.specs.Machines.{most_ways}
use Rattle.kmp_base.specs.declared.setup.Setup.{Setup}
use Rattle.kmp_base.specs.declared.setup.MachineKind.{MachineKind}
use Rattle.kmp_base.specs.declared.setup.Policy.{Policy}
use Rattle.kmp_base.specs.declared.setup.Turns.{Turns}
use Rattle.access_log.specs.declared.Item.{Item}
use Rattle.image_file.specs.Value.{ImageValue, memory_bytes}
use Rattle.image_file.specs.Reading.{image_meaning}
use Rattle.row_reader.specs.Rows.{Row, Rows, is_named}
use Rattle.kmp_base.specs.Bind.{◌>>=◌}
use Rattle.row_reader.specs.Reading.{chosen, row_at, many_at, each_at}
use Rattle.timetable.specs.declared.rows.TimeRow.{TimeRow}
use Rattle.report_rows.specs.declared.MemoryWord.{MemoryWord}
use Rattle.report_row_reader.specs.declared.read.EndRow.{EndRow}
use Rattle.report_rows.specs.Ends.{EndValue}
use Rattle.report_rows.specs.Names.{count_names}
use Rattle.report_rows.specs.Bounds.{most_rows}
use Rattle.report_row_reader.specs.Reading.{fixed_of, number_row_of, machine_row_of, sets_row_of, policy_row_of, turns_row_of}
use Rattle.report_row_reader.specs.Reading.{bytes_row_of, is_item, item_row_of, end_row_of, registers_row_of, memory_row_of, count_row_of}
use Rattle.report_row_reader.specs.Reading.{NumberedRow, numbered, after_row, is_timed, timed_row_of}
use Rattle.report_text.specs.Report.{ReportValue}

-- ---- the header

-- its last rows, behind the machine, the cores, the budget, the policy and the turns
unfoldable pub caches_at : MachineKind → ℕ → ℕ → Policy → Turns → Rows → Result (Setup × Rows) Rows
caches_at machine cores budget policy turns rows = do
  seed ← row_at (number_row_of (codes "seed") 0 (2 ^ 32 - 1)) rows
  sets ← row_at sets_row_of seed.1
  ways ← row_at (number_row_of (codes "ways") 1 (most_ways machine)) sets.1
  Ok (
    record {
      machine = machine;
      cores = cores;
      budget = budget;
      policy = policy;
      turns = turns;
      seed = seed.0;
      sets = sets.0;
      ways = ways.0;
    },
    ways.1,
  )

unfoldable pub header_at : Rows → Result (Setup × Rows) Rows
header_at rows = do
  title ← row_at (fixed_of (codes "kmp-report" ∷ codes "1" ∷ [])) rows
  machine ← row_at machine_row_of title.1
  cores ← row_at (number_row_of (codes "cores") 1 8) machine.1
  budget ← row_at (number_row_of (codes "budget") 1 100000) cores.1
  policy ← row_at policy_row_of budget.1
  turns ← row_at turns_row_of policy.1
  caches_at machine.0 cores.0 budget.0 policy.0 turns.0 turns.1

-- ---- the image

-- so many rows of 32 bytes, and the bytes one after another
unfoldable pub full_rows_at : ℕ → Rows → Result (List ℕ × Rows) Rows
full_rows_at zero rows = Ok ([], rows)
full_rows_at (suc n) rows = do
  bytes ← row_at (bytes_row_of 32) rows
  others ← full_rows_at n bytes.1
  Ok (bytes.0 ++ others.0, others.1)

-- what was asked for, the number of the image's bytes, and those of them before the last row
pub record OpeningValue : Type 0 where
  pub setup : Setup
  pub size : ℕ
  pub front : List ℕ

unfoldable pub opening_at : Rows → Result (OpeningValue × Rows) Rows
opening_at rows = do
  header ← header_at rows
  size ← row_at (number_row_of (codes "image") 1 (2 ^ 32 - 1)) header.1
  front ← full_rows_at ((size.0 - 1) / 32) size.1
  Ok (record { setup = header.0; size = size.0; front = front.0 }, front.1)

-- the image that bytes mean
abbrev pub image_of : List ℕ → Option ImageValue
image_of bytes = meant (image_meaning bytes)
  where
    meant : {E : Type 0} → Result ImageValue E → Option ImageValue
    meant (Ok image) = Some image
    meant (Err fault) = None

abbrev pub with_last : List ℕ → Option (List ℕ) → Option ImageValue
with_last front None = None
with_last front (Some last) = image_of (front ++ last)

-- the image, with its last row, of which it isn't read where the bytes mean none
unfoldable pub image_row_of : ℕ → List ℕ → Row → Option ImageValue
image_row_of size front row = with_last front (bytes_row_of (size - length front) row)

-- ---- what was done, and how it ended

-- the item in the first of some rows, and the rows behind it; none where that row isn't one of a history
abbrev pub item_at : MachineKind → ℕ → ℕ → Rows → Result (Option (Item × Rows)) Rows
item_at machine cores bytes [] = Ok None
item_at machine cores bytes (row ∷ rows) =
    if is_item row then (chosen (item_row_of machine cores bytes row) row rows >>= λ p. Ok (Some p)) else Ok None

-- the items of a history
abbrev pub items_at : MachineKind → ℕ → ℕ → Rows → Result (List Item × Rows) Rows
items_at machine cores bytes rows = many_at is_item (λ low. item_row_of machine cores bytes) (λ item. 0) 0 rows

-- the end of a core, by its row and its registers, without its timetable
abbrev pub end_of_rows : EndRow → List ℕ → List ℕ → List ℕ → List ℕ → EndValue
end_of_rows row a b c d = record {
  end = row.end;
  cycles = row.cycles;
  retired = row.retired;
  state = record { pc = row.pc; dpc = row.dpc; regs = a ++ b ++ c ++ d };
  rows = [];
}

unfoldable pub end_at : ℕ → ℕ → Rows → Result (EndValue × Rows) Rows
end_at budget core rows = do
  row ← row_at (end_row_of budget core) rows
  a ← row_at (registers_row_of core 0) row.1
  b ← row_at (registers_row_of core 8) a.1
  c ← row_at (registers_row_of core 16) b.1
  d ← row_at (registers_row_of core 24) c.1
  Ok (end_of_rows row.0 a.0 b.0 c.0 d.0, d.1)

abbrev pub ends_at : ℕ → ℕ → Rows → Result (List EndValue × Rows) Rows
ends_at budget cores rows = each_at (end_at budget) (range_with_len 0 cores) rows

abbrev pub after_word : MemoryWord → ℕ
after_word word = word.addr + 4

abbrev pub words_at : ℕ → ℕ → Rows → Result (List MemoryWord × Rows) Rows
words_at bytes low rows = many_at (is_named (codes "W")) (memory_row_of bytes) after_word low rows

-- the timetable of a core, of so many rows at most
abbrev pub timetable_at : ℕ → ℕ → Rows → Result (List NumberedRow × Rows) Rows
timetable_at most core rows = many_at (is_timed core) (timed_row_of most core) after_row 0 rows

-- those of so many cores
abbrev pub timetables_at : ℕ → ℕ → Rows → Result (List (List NumberedRow) × Rows) Rows
timetables_at most cores rows = each_at (timetable_at most) (range_with_len 0 cores) rows

-- an end with this timetable
abbrev pub with_rows : EndValue → List TimeRow → EndValue
with_rows ended rows = record { end = ended.end; cycles = ended.cycles; retired = ended.retired; state = ended.state; rows = rows }

-- ends with these timetables, each with its own
abbrev pub with_timetables : List EndValue → List (List NumberedRow) → List EndValue
with_timetables [] more = []
with_timetables (ended ∷ ends) [] = []
with_timetables (ended ∷ ends) (rows ∷ more) = with_rows ended (map (λ (it : NumberedRow). it.row) rows) ∷ with_timetables ends more

-- the timetable of an end, as it is read
abbrev pub timed : EndValue → List NumberedRow
timed ended = numbered 0 ended.rows

abbrev pub counts_at : Rows → Result (List ℕ × Rows) Rows
counts_at rows = each_at (λ name. row_at (count_row_of name)) count_names rows

-- all behind the image
unfoldable pub outcome_at : Setup → ImageValue → Rows → Result (ReportValue × Rows) Rows
outcome_at setup image rows = do
  items ← items_at setup.machine setup.cores (memory_bytes image) rows
  ends ← ends_at setup.budget setup.cores items.1
  words ← words_at (memory_bytes image) (4 * length image.code) ends.1
  timetables ← timetables_at (most_rows setup.machine) setup.cores words.1
  counts ← counts_at timetables.1
  last ← row_at (fixed_of (codes "end" ∷ [])) counts.1
  Ok (
    record {
      setup = setup;
      image = image;
      items = items.0;
      cores = with_timetables ends.0 timetables.0;
      words = words.0;
      counts = counts.0;
    },
    last.1,
  )

-- ---- a report

unfoldable pub report_at : Rows → Result (ReportValue × Rows) Rows
report_at rows = do
  opening ← opening_at rows
  image ← row_at (image_row_of opening.0.size opening.0.front) opening.1
  outcome_at opening.0.setup image.0 image.1

-- nothing stands behind a report
abbrev pub whole : ReportValue → Rows → Result ReportValue Rows
whole report [] = Ok report
whole report (row ∷ rows) = Err (row ∷ rows)

unfoldable pub read_of : Rows → Result ReportValue Rows
read_of rows = report_at rows >>= λ p. whole p.0 p.1
