-- When a report is the one of a run.
use Rattle.std.specs.Prelude.{◌≡◌, map}
use Rattle.kmp_base.specs.declared.setup.Setup.{Setup}
use Rattle.image_file.specs.Value.{ImageValue}
use Rattle.access_log.specs.Items.{entries}
use Rattle.right_run.specs.Turns.{IsInTurns}
use Rattle.report_rows.specs.Ends.{EndValue}
use Rattle.report_text.specs.Report.{ReportValue}
use Rattle.report_text.specs.Form.{IsReport}
use Rattle.report_text.specs.Right.{IsRightReport}

-- It is right, with what was asked for and what was loaded, and its text can be read again.
pub record IsReportOf (setup : Setup) (image : ImageValue) (report : ReportValue) : Type 0 where
  pub asked : report.setup ≡ setup
  pub loaded : report.image ≡ image
  pub right : IsRightReport report
  pub form : IsReport report
  -- Its accesses stand in the order of the cores' turns.
  pub turns : IsInTurns setup (map (λ (core : EndValue). core.cycles) report.cores) (map (λ (core : EndValue). core.rows) report.cores)
      (entries report.items)
