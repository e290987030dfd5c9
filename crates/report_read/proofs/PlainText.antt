-- The rows of a report are plain.
use Rattle.std.proofs.Common.{ℕ, ◌+◌, ◌/◌, ◌^◌, ◌<◌, ◌≤◌, List, [], ◌∷◌, ◌++◌, length, map, refl, arith}
use Rattle.std.specs.Prelude.{codes}
use Rattle.std.specs.List.{AllByRecursion, range_with_len}
use Rattle.std_laws.proofs.ListLaws.{AllByRecursion-append}
use Rattle.kmp_base.specs.declared.setup.MachineKind.{MachineKind}
use Rattle.kmp_base.specs.declared.setup.MachineKind.TheVariants as machines
use Rattle.access_log.specs.declared.Item.{Item}
use Rattle.image_file.specs.Value.{ImageValue, image_bytes, memory_bytes}
use Rattle.row_reader.specs.Rows.{Rows, IsPlainRow}
use Rattle.row_reader.proofs.PlainLaws.{plain_by_test}
use Rattle.report_rows.specs.declared.MemoryWord.{MemoryWord}
use Rattle.report_rows.specs.Ends.{EndValue}
use Rattle.report_rows.specs.Bounds.{IsItem, most_rows, IsEnd}
use Rattle.report_rows.specs.Rows.{bytes_row_at, item_row, memory_row, core_rows, timetable_rows, header_rows}
use Rattle.report_row_reader.proofs.PlainRowLaws.{header_plain, number_row_plain, bytes_row_plain, item_plain, memory_plain}
use Rattle.report_row_reader.proofs.PlainRowLaws.{core_rows_plain}
use Rattle.report_row_reader.proofs.PlainRowLaws.{timetable_plain}
use Rattle.report_row_reader.proofs.PlainRowLaws.{count_rows_plain}
use Rattle.report_text.specs.Report.{ReportValue}
use Rattle.report_text.specs.Text.{image_rows, rows_of_cores, rows_of_timetables, count_rows, run_rows, outcome_rows, report_rows}
use Rattle.report_text.specs.Form.{IsReport}
use Rattle.report_read.proofs.LastRowLaws.{memory_fits}

abbrev ArePlain : Rows → Type 0
ArePlain rows = AllByRecursion IsPlainRow rows

bytes_plain_at : (bytes indices : List ℕ) → ArePlain (map (bytes_row_at bytes) indices)
bytes_plain_at bytes [] = tt
bytes_plain_at bytes (index ∷ indices) = (bytes_row_plain _, bytes_plain_at bytes indices)

image_plain : (image : ImageValue) → length (image_bytes image) < 2 ^ 32 → ArePlain (image_rows image)
unfolding image_rows
image_plain image few =
    let bytes = image_bytes image in (
      number_row_plain (codes "image") (length bytes) (plain_by_test (codes "image") refl) (omega (arith, few)),
      bytes_plain_at bytes (range_with_len 0 ((length bytes + 31) / 32)),
    )

items_plain : (machine : MachineKind) (cores bytes : ℕ) (items : List Item) → cores ≤ 8 → bytes ≤ 2 ^ 32
    → AllByRecursion (IsItem machine cores bytes) items → ArePlain (map item_row items)
items_plain machine cores bytes [] few small are = tt
items_plain machine cores bytes (item ∷ items) few small are =
    (item_plain machine cores bytes item few small are.0, items_plain machine cores bytes items few small are.1)

cores_plain : (budget most first : ℕ) (cores : List EndValue) → budget < 2 ^ 64 → first + length cores < 2 ^ 64
    → AllByRecursion (IsEnd budget most) cores → ArePlain (rows_of_cores first cores)
cores_plain budget most first [] small few are = tt
cores_plain budget most first (ended ∷ cores) small few are =
    AllByRecursion-append IsPlainRow (core_rows first ended) (rows_of_cores (first + 1) cores)
    (core_rows_plain first budget most ended (omega arith) small are.0)
    (cores_plain budget most (first + 1) cores small (omega arith) are.1)

timetables_plain : (budget most first : ℕ) (cores : List EndValue) → most < 2 ^ 64 → first + length cores < 2 ^ 64
    → AllByRecursion (IsEnd budget most) cores → ArePlain (rows_of_timetables first cores)
timetables_plain budget most first [] small few are = tt
timetables_plain budget most first (ended ∷ cores) small few are =
    AllByRecursion-append IsPlainRow (timetable_rows first ended.rows) (rows_of_timetables (first + 1) cores)
    (timetable_plain first budget most ended (omega arith) small are.0)
    (timetables_plain budget most (first + 1) cores small (omega arith) are.1)

few_rows : (machine : MachineKind) → most_rows machine < 2 ^ 64
few_rows machines.Plain = omega arith
few_rows machines.Pipe = omega arith
few_rows machines.Full = omega arith

words_plain : (words : List MemoryWord) → ArePlain (map memory_row words)
words_plain [] = tt
words_plain (word ∷ words) = (memory_plain word, words_plain words)

pub report_plain : (r : ReportValue) → IsReport r → AllByRecursion IsPlainRow (report_rows r)
unfolding report_rows
report_plain r i =
    let few : r.setup.cores ≤ 8 = i.header.limits.cores in
    let most : r.setup.budget ≤ 100000 = i.header.limits.budget in
    let header = AllByRecursion-append IsPlainRow (header_rows r.setup) (image_rows r.image) (header_plain r.setup i.header)
    (image_plain r.image i.image_size) in
    let run = AllByRecursion-append IsPlainRow (header_rows r.setup ++ image_rows r.image) (map item_row r.items) header
    (items_plain r.setup.machine r.setup.cores (memory_bytes r.image) r.items few (memory_fits r.image i.image_size i.image).1 i.items) in
    let machine_rows = most_rows r.setup.machine in
    let within : 0 + length r.cores < 2 ^ 64 = omega (arith, i.cores, few) in
    let cores = cores_plain r.setup.budget machine_rows 0 r.cores (omega (arith, most)) within i.ends in
    let timetables = timetables_plain r.setup.budget machine_rows 0 r.cores (few_rows r.setup.machine) within i.ends in
    let words = AllByRecursion-append IsPlainRow (rows_of_cores 0 r.cores) (map memory_row r.words) cores (words_plain r.words) in
    let times = AllByRecursion-append IsPlainRow (rows_of_cores 0 r.cores ++ map memory_row r.words) (rows_of_timetables 0 r.cores) words
    timetables in
    let outcome = AllByRecursion-append IsPlainRow
    (rows_of_cores 0 r.cores ++ map memory_row r.words ++ rows_of_timetables 0 r.cores) (count_rows r.counts) times
    (count_rows_plain r.counts i.counts) in
    AllByRecursion-append IsPlainRow (run_rows r ++ outcome_rows r) ((codes "end" ∷ []) ∷ [])
    (AllByRecursion-append IsPlainRow (run_rows r) (outcome_rows r) run outcome) ((plain_by_test (codes "end") refl, tt), tt)
