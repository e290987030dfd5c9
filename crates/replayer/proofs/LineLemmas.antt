-- The lines at which the rows of a report begin, and that there are no more rows than bytes.
use Rattle.std.proofs.Common.{◌≡◌, ℕ, suc, ◌+◌, ◌*◌, ◌/◌, ◌≤◌, List, [], ◌∷◌, ◌++◌, length, map, codes, refl, sym, ap, ◌∙◌, arith}
use Rattle.std.specs.Prelude.{codes, sum_by}
use Rattle.std.proofs.lemmas.List.{length-append, length-map}
use Rattle.std.proofs.lemmas.List.FromFn.{length-map-range_with_len}
use Rattle.std.proofs.lemmas.List.Concat.{flat_map-cons}
use Rattle.std.proofs.lemmas.List.Sums.{sum_by-cons}
use Rattle.kmp_base.specs.declared.setup.Setup.{Setup}
use Rattle.kmp_base.specs.Rows.{row_behind, row_text, text_of}
use Rattle.image_file.specs.Value.{ImageValue, image_bytes}
use Rattle.timetable.specs.declared.CoreEnd.{CoreEnd}
use Rattle.timetable.specs.declared.rows.TimeRow.{TimeRow}
use Rattle.report_rows.specs.Ends.{EndValue, end_value}
use Rattle.report_rows.specs.Rows.{bytes_row_at, item_row, memory_row, header_rows, core_rows, access_count_rows, bus_count_rows}
use Rattle.report_rows.specs.Rows.{wait_count_rows, timed_row, rows_of_each, timetable_rows}
use Rattle.report_text.specs.Report.{ReportValue}
use Rattle.report_text.specs.Text.{image_rows, rows_of_cores, rows_of_timetables, count_rows, run_rows, outcome_rows}
use Rattle.report_text.specs.Text.{report_rows, report_text}
use Rattle.replayer.specs.Outcome.{history_line, cores_line, words_line, timetables_line, counts_line}

-- ---- a row has a byte at least

some_behind : (text : List ℕ) (parts : List (List ℕ)) → 1 ≤ length (row_behind text parts)
some_behind text [] = omega (arith, length-append text (codes "\n"))
some_behind text (part ∷ parts) = some_behind (text ++ codes " " ++ part) parts

some_row : (row : List (List ℕ)) → 1 ≤ length (row_text row)
some_row [] = omega arith
some_row (part ∷ parts) = some_behind part parts

rows_few : (rows : List (List (List ℕ))) → length rows ≤ length (text_of rows)
rows_few [] = omega arith
rows_few (row ∷ rows) =
    omega (arith, ap length (flat_map-cons row_text row rows), length-append (row_text row) (text_of rows), some_row row, rows_few rows)

-- ---- how many rows stand together

length-header : (setup : Setup) → length (header_rows setup) ≡ 9
unfolding header_rows
length-header setup = refl

length-image : (image : ImageValue) → length (image_rows image) ≡ 1 + (length (image_bytes image) + 31) / 32
unfolding image_rows
length-image image =
    omega (arith, length-map-range_with_len (bytes_row_at (image_bytes image)) 0 ((length (image_bytes image) + 31) / 32))

length-core : (core : ℕ) (ended : EndValue) → length (core_rows core ended) ≡ 5
unfolding core_rows
length-core core ended = refl

length-cores : (core : ℕ) (ends : List EndValue) → length (rows_of_cores core ends) ≡ 5 * length ends
length-cores core [] = refl
length-cores core (ended ∷ more) =
    omega (
      arith,
      length-append (core_rows core ended) (rows_of_cores (core + 1) more),
      length-core core ended,
      length-cores (core + 1) more,
    )

length-timed : (core n : ℕ) (rows : List TimeRow) → length (rows_of_each (λ n row. timed_row core n row ∷ []) n rows) ≡ length rows
length-timed core n [] = refl
length-timed core n (row ∷ rows) = ap suc (length-timed core (n + 1) rows)

-- how many rows the timetables have
abbrev pub timed_count : List EndValue → ℕ
timed_count ends = sum_by (λ (ended : EndValue). length ended.rows) ends

length-timetables : (core : ℕ) (ends : List EndValue) → length (rows_of_timetables core ends) ≡ timed_count ends
length-timetables core [] = refl
length-timetables core (ended ∷ more) =
    omega (
      arith,
      length-append (timetable_rows core ended.rows) (rows_of_timetables (core + 1) more),
      length-timed core 0 ended.rows,
      length-timetables (core + 1) more,
      sum_by-cons (λ (ended : EndValue). length ended.rows) ended more,
    )

length-counts : (counts : List ℕ) → length (count_rows counts) ≡ 13
unfolding access_count_rows bus_count_rows wait_count_rows
length-counts counts = refl

-- ---- the lines

pub history_line_is : (report : ReportValue) → history_line report ≡ 11 + (length (image_bytes report.image) + 31) / 32
history_line_is report =
    omega (arith, length-append (header_rows report.setup) (image_rows report.image), length-header report.setup, length-image report.image)

pub cores_line_is : (report : ReportValue) → cores_line report ≡ history_line report + length report.items
cores_line_is report =
    omega (
      arith,
      length-append (header_rows report.setup ++ image_rows report.image) (map item_row report.items),
      length-map report.items item_row,
    )

pub words_line_is : (report : ReportValue) → words_line report ≡ cores_line report + 5 * length report.cores
words_line_is report = omega (arith, length-append (run_rows report) (rows_of_cores 0 report.cores), length-cores 0 report.cores)

pub timetables_line_is : (report : ReportValue) → timetables_line report ≡ words_line report + length report.words
timetables_line_is report =
    omega (
      arith,
      length-append (run_rows report ++ rows_of_cores 0 report.cores) (map memory_row report.words),
      length-map report.words memory_row,
    )

pub counts_line_is : (report : ReportValue) → counts_line report ≡ words_line report + length report.words + timed_count report.cores
counts_line_is report =
    let words = map memory_row report.words in
    omega (
      arith,
      length-append (run_rows report ++ rows_of_cores 0 report.cores ++ words) (rows_of_timetables 0 report.cores),
      length-append (run_rows report ++ rows_of_cores 0 report.cores) words,
      length-map report.words memory_row,
      length-timetables 0 report.cores,
    )

-- the same of ends as a run leaves them
abbrev pub rows_left : List CoreEnd → ℕ
rows_left ends = sum_by (λ (ended : CoreEnd). length ended.rows.rows) ends

pub timed_count_told : (ends : List CoreEnd) → rows_left ends ≡ timed_count (map end_value ends)
timed_count_told [] = refl
timed_count_told (ended ∷ ends) =
    sum_by-cons (λ (ended : CoreEnd). length ended.rows.rows) ended ends ∙ ap (λ n. length ended.rows.rows + n) (timed_count_told ends)
    ∙ sym (sum_by-cons (λ (ended : EndValue). length ended.rows) (end_value ended) (map end_value ends))

-- the last line is no greater than the number of bytes
pub last_line : (report : ReportValue) → counts_line report + 13 ≤ length (report_text report)
unfolding report_rows report_text
last_line report =
    let run = run_rows report in
    let cores = rows_of_cores 0 report.cores in
    let words = map memory_row report.words in
    let times = rows_of_timetables 0 report.cores in
    let counts = count_rows report.counts in
    omega (
      arith,
      rows_few (report_rows report),
      length-append (run ++ outcome_rows report) ((codes "end" ∷ []) ∷ []),
      length-append run (outcome_rows report),
      length-append (cores ++ words ++ times) counts,
      length-append (cores ++ words) times,
      length-append cores words,
      length-append (run ++ cores ++ words) times,
      length-append (run ++ cores) words,
      length-append run cores,
      length-counts report.counts,
    )

-- the first word stands behind five rows for each core that ended, and no farther than the last line
pub words_line_behind : (report : ReportValue) (ends : List CoreEnd) → map end_value ends ≡ report.cores
    → (words_line report ≡ cores_line report + 5 * length ends) × (words_line report ≤ length (report_text report))
words_line_behind report ends are =
    let count = length-map ends end_value in
    let cores = ap (λ (es : List EndValue). length es) are in
    (omega (arith, words_line_is report, count, cores), omega (arith, counts_line_is report, last_line report))
