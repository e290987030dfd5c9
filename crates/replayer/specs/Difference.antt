-- The first row and field of a report that differs from what is due.
use Rattle.std.specs.Prelude.{◌≡◌, ◌⊎◌, Some}
use Rattle.access_log.specs.Replay.{FlatMachine}
use Rattle.history_check.specs.History.{HistoryDiffers, HistoryIsRight}
use Rattle.report_text.specs.Report.{ReportValue}
use Rattle.row_check.specs.declared.difference.Difference.{Difference}
use Rattle.row_check.specs.Judgments.{first_told}
use Rattle.replayer.specs.declared.Verdict.{Verdict}
use Rattle.replayer.specs.declared.Verdict.TheVariants as verdicts
use Rattle.replayer.specs.Outcome.{history_line, machine_of, outcome_judged}

-- The history is right, and this is the first difference in the rows behind it.
pub record OutcomeDiffers (report : ReportValue) (difference : Difference) : Type 0 where
  pub machine : FlatMachine
  pub right : HistoryIsRight report.setup report.image report.items (machine_of report) machine
  pub first : first_told (outcome_judged report machine) ≡ Some difference

-- the first difference of a report
abbrev pub IsDifference : ReportValue → Difference → Type 0
IsDifference report difference =
    HistoryDiffers report.setup report.image (history_line report) report.items (machine_of report) difference
    ⊎ OutcomeDiffers report difference

-- a fact of the difference that a verdict tells
abbrev pub IfDiffers : Verdict → (Difference → Type 0) → Type 0
IfDiffers verdicts.Agrees P = Unit {0}
IfDiffers (verdicts.Differs difference) P = P difference
