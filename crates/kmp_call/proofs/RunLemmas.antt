-- The report of a right outcome.
use Rattle.std.proofs.Common.{◌≡◌, ◌≤◌, Result, Ok, Err, List, [], ◌∷◌, refl, ap, subst}
use Rattle.std.specs.Prelude.{IfOk, map}
use Rattle.kmp_base.specs.declared.setup.Setup.{Setup}
use Rattle.kmp_base.specs.Machines.{most_ways}
use Rattle.image_file.specs.Value.{ImageValue}
use Rattle.access_log.specs.Items.{entries}
use Rattle.timetable.specs.declared.CoreEnd.{CoreEnd}
use Rattle.timetable.specs.Outcome.{OutcomeValue}
use Rattle.right_run.specs.Right.{IsRight}
use Rattle.right_run.specs.Turns.{IsInTurns, cycles_of, tables_of}
use Rattle.report_rows.specs.Ends.{EndValue, end_value}
use Rattle.report_text.specs.Report.{ReportValue, report_of}
use Rattle.report_text.specs.Form.{IsReport}
use Rattle.report_text.specs.Right.{IsRightReport}
use Rattle.kmp_call.specs.Right.{IsReportOf}

is_right : (setup : Setup) (image : ImageValue) (outcome : OutcomeValue) → IsRight setup image outcome
    → IsRightReport (report_of setup image outcome)
unfolding report_of
is_right setup image outcome right = record { outcome = outcome; right = right; is = refl }

-- A report tells the cycles of each core.
told-cycles : (ends : List CoreEnd) → map (λ (core : EndValue). core.cycles) (map end_value ends) ≡ cycles_of ends
told-cycles [] = refl
told-cycles (ended ∷ ends) = ap (λ cycles. ended.cycles ∷ cycles) (told-cycles ends)

-- So it does the timetable of each.
told-tables : (ends : List CoreEnd) → map (λ (core : EndValue). core.rows) (map end_value ends) ≡ tables_of ends
told-tables [] = refl
told-tables (ended ∷ ends) = ap (λ tables. ended.rows.rows ∷ tables) (told-tables ends)

-- The report of a right outcome is the one of a run.
is_report_of : (setup : Setup) (image : ImageValue) (outcome : OutcomeValue) → IsRight setup image outcome
    → IsInTurns setup (cycles_of outcome.cores) (tables_of outcome.cores) (entries outcome.items)
    → IsReport (report_of setup image outcome) → IsReportOf setup image (report_of setup image outcome)
unfolding report_of
is_report_of setup image outcome right turns form = record {
  asked = refl;
  loaded = refl;
  right = is_right setup image outcome right;
  form = form;
  turns = rw (told-cycles outcome.cores, told-tables outcome.cores) turns;
}

pub reported : {E : Type 0} (setup : Setup) (image : ImageValue) (outcome : OutcomeValue) (result : Result ReportValue E)
    → IfOk result (λ report. report ≡ report_of setup image outcome)
    → IfOk result (λ report. setup.ways ≤ most_ways setup.machine → IsRight setup image outcome → IsReport report)
    → setup.ways ≤ most_ways setup.machine
    → IsRight setup image outcome → IsInTurns setup (cycles_of outcome.cores) (tables_of outcome.cores) (entries outcome.items)
    → IfOk result (IsReportOf setup image)
reported setup image outcome (Ok report) is form ways right turns =
    rw is (is_report_of setup image outcome right turns (subst IsReport is (form ways right)))
reported setup image outcome (Err fault) is form ways right turns = tt
