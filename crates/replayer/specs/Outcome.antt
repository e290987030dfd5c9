-- What is due behind the history of a report.
use Rattle.std.specs.Prelude.{ℕ, ◌+◌, List, ◌++◌, length, map}
use Rattle.image_file.specs.Value.{start_memory, start_states}
use Rattle.access_log.specs.Items.{entries}
use Rattle.access_log.specs.Replay.{FlatMachine, started}
use Rattle.report_rows.specs.Rows.{header_rows, memory_row}
use Rattle.right_run.specs.Right.{caches_of}
use Rattle.report_text.specs.Counts.{counts_of}
use Rattle.report_text.specs.Report.{ReportValue, words_past}
use Rattle.report_text.specs.Text.{image_rows, run_rows, rows_of_cores, rows_of_timetables}
use Rattle.row_check.specs.Judgments.{Judgment}
use Rattle.replayer.specs.Lists.{words_judged, counts_judged}
use Rattle.replayer.specs.Cores.{cores_judged}
use Rattle.replayer.specs.Timetables.{timetables_judged}

-- The lines of the first item of the history, of the first core, of the first memory word, of the first row of a timetable and of the first
-- count: each is behind the rows before it.
abbrev pub history_line : ReportValue → ℕ
history_line report = length (header_rows report.setup ++ image_rows report.image) + 1

abbrev pub cores_line : ReportValue → ℕ
cores_line report = length (run_rows report) + 1

abbrev pub words_line : ReportValue → ℕ
words_line report = length (run_rows report ++ rows_of_cores 0 report.cores) + 1

abbrev pub timetables_line : ReportValue → ℕ
timetables_line report = length (run_rows report ++ rows_of_cores 0 report.cores ++ map memory_row report.words) + 1

abbrev pub counts_line : ReportValue → ℕ
counts_line report =
    length (run_rows report ++ rows_of_cores 0 report.cores ++ map memory_row report.words ++ rows_of_timetables 0 report.cores) + 1

-- the sequential machine at the start of what a report says was loaded
abbrev pub machine_of : ReportValue → FlatMachine
machine_of report = started report.image.code (start_memory report.image) (start_states report.image report.setup.cores)

-- All rows behind the history, in order, by the machine that made its accesses.
abbrev pub outcome_judged : ReportValue → FlatMachine → List Judgment
outcome_judged report machine =
    cores_judged (cores_line report) report.setup report.image machine (entries report.items) 0 report.cores machine.cores
    ++ words_judged (words_line report) report.words (words_past (length report.image.code) machine.memory)
    ++ timetables_judged (timetables_line report) report.setup report.image (entries report.items) 0 report.cores
    ++ counts_judged (counts_line report) report.counts (counts_of (caches_of report.setup) report.cores report.items)
