-- The one text of a report: its rows in order.
use Rattle.std.specs.Prelude.{ℕ, ◌+◌, ◌/◌, List, [], ◌∷◌, ◌++◌, length, map, codes}
use Rattle.std.specs.List.{range_with_len}
use Rattle.kmp_base.specs.Rows.{text_of}
use Rattle.image_file.specs.Value.{ImageValue, image_bytes}
use Rattle.report_rows.specs.Ends.{EndValue}
use Rattle.report_rows.specs.Rows.{number_row, bytes_row_at, item_row, memory_row, header_rows, core_rows, access_count_rows}
use Rattle.report_rows.specs.Rows.{bus_count_rows, wait_count_rows, rows_of_each, timetable_rows}
use Rattle.report_text.specs.Report.{ReportValue}

-- the number of the image's bytes, and the bytes, 32 in a row
unfoldable pub image_rows : ImageValue → List (List (List ℕ))
image_rows image =
    let bytes = image_bytes image in
    number_row (codes "image") (length bytes) ∷ map (bytes_row_at bytes) (range_with_len 0 ((length bytes + 31) / 32))

-- the ends of the cores from a number on
abbrev pub rows_of_cores : ℕ → List EndValue → List (List (List ℕ))
rows_of_cores core ends = rows_of_each core_rows core ends

-- their timetables
abbrev pub rows_of_timetables : ℕ → List EndValue → List (List (List ℕ))
rows_of_timetables core ends = rows_of_each (λ number ended. timetable_rows number ended.rows) core ends

abbrev pub count_rows : List ℕ → List (List (List ℕ))
count_rows counts = access_count_rows counts ++ bus_count_rows counts ++ wait_count_rows counts

-- what was asked for, what was loaded, and what was done
abbrev pub run_rows : ReportValue → List (List (List ℕ))
run_rows report = header_rows report.setup ++ image_rows report.image ++ map item_row report.items

-- how it ended
abbrev pub outcome_rows : ReportValue → List (List (List ℕ))
outcome_rows report =
    rows_of_cores 0 report.cores ++ map memory_row report.words ++ rows_of_timetables 0 report.cores ++ count_rows report.counts

-- all rows of a report
unfoldable pub report_rows : ReportValue → List (List (List ℕ))
report_rows report = run_rows report ++ outcome_rows report ++ (codes "end" ∷ []) ∷ []

unfoldable pub report_text : ReportValue → List ℕ
report_text report = text_of (report_rows report)
