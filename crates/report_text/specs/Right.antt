-- When a report is right.
use Rattle.std.specs.Prelude.{◌≡◌}
use Rattle.timetable.specs.Outcome.{OutcomeValue}
use Rattle.right_run.specs.Right.{IsRight}
use Rattle.report_text.specs.Report.{ReportValue, report_of}

-- It is the report of a right outcome of what it says was asked for and loaded.
pub record IsRightReport (report : ReportValue) : Type 0 where
  pub outcome : OutcomeValue
  pub right : IsRight report.setup report.image outcome
  pub is : report ≡ report_of report.setup report.image outcome
