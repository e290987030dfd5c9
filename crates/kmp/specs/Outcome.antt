-- What is due for the orders of kmp.
use Rattle.std.specs.Prelude.{◌≡◌, ◌⊎◌, ℕ, ◌<◌, ◌≤◌, List, length, Result, Ok, Err}
use Rattle.image_file.specs.Value.{ImageValue, image_bytes}
use Rattle.row_reader.specs.Rows.{rows_of}
use Rattle.report_text.specs.Report.{ReportValue}
use Rattle.report_text.specs.Right.{IsRightReport}
use Rattle.report_text.specs.Text.{report_text}
use Rattle.report_text.specs.Form.{IsReport}
use Rattle.report_read.specs.BadRow.{IsBadRow}
use Rattle.workload_gen.specs.Source.{source_text}
use Rattle.report_summary.specs.Summary.{summary_text}
use Rattle.kmp_base.specs.declared.setup.Setup.{Setup}
use Rattle.row_check.specs.declared.difference.Difference.{Difference}
use Rattle.replayer.specs.Difference.{IsDifference}
use Rattle.kmp_words.specs.Input.{meaning_of}
use Rattle.kmp_words.specs.Loaded.{image_in}
use Rattle.kmp_words.specs.declared.input.Input.TheVariants as inputs
use Rattle.kmp_words.specs.declared.input.Refusal.{Refusal}
use Rattle.kmp_words.specs.declared.input.Refusal.TheVariants.{TooLong}
use Rattle.kmp_words.specs.declared.order.Order.{Order}
use Rattle.kmp_words.specs.declared.order.Order.TheVariants as orders
use Rattle.kmp_call.specs.Outcome.{IsRefusalDue, IsRunDue, report_limit}
use Rattle.kmp_call.specs.Right.{IsReportOf}
use Rattle.kmp_call.specs.Status.{status_of}
use Rattle.kmp_call.specs.Refused.{too_long_row, bad_row}
use Rattle.kmp_call.specs.declared.status.Status.{Status}
use Rattle.kmp_call.specs.declared.status.Status.TheVariants as statuses
use Rattle.kmp.specs.Replay.{agrees_row, difference_row}

-- What is due for the image of a source: its bytes, or the row of the refusal.
abbrev pub IsImageDue : Result ImageValue Refusal → List ℕ → Status → Type 0
IsImageDue (Ok image) text due = (text ≡ image_bytes image) × (due ≡ statuses.Done)
IsImageDue (Err refusal) text due = IsRefusalDue refusal text due

-- What is due for a report that was read: that it agrees, exactly where it is right, and else its first difference.
abbrev pub IsVerdictDue : ReportValue → List ℕ → Status → Type 0
IsVerdictDue report text due =
    (IsRightReport report × (text ≡ agrees_row) × (due ≡ statuses.Done))
    ⊎ ((IsRightReport report → ⊥) × (difference : Difference) × IsDifference report difference × (text ≡ difference_row difference)
    × (due ≡ statuses.Differs difference.line))

-- What is due for the check of an input: the verdict on the report whose text it is, or the row of its refusal, as too
-- long, or with the number of its first bad row.
abbrev pub IsCheckDue : List ℕ → List ℕ → Status → Type 0
IsCheckDue bytes text due =
    ((report : ReportValue) × IsReport report × (bytes ≡ report_text report) × (length bytes ≤ report_limit) × IsVerdictDue report text due)
    ⊎ (((line : ℕ) × IsBadRow (rows_of bytes) line × (length bytes ≤ report_limit) × (text ≡ bad_row line)
    × (due ≡ statuses.ReportRefused line))
    ⊎ ((report_limit < length bytes) × (text ≡ too_long_row report_limit) × (due ≡ statuses.InputRefused (TooLong report_limit))))

-- What the source means that a seed draws, of so many blocks, in 65,536 bytes of memory.
abbrev pub trial_meaning : Setup → ℕ → Result ImageValue Refusal
trial_meaning setup size = image_in (meaning_of (inputs.Source 8192) (source_text setup.seed size))

-- What is due for the trial of an image: the summary of a right report and the status of its ends.
abbrev pub IsSummaryDue : Setup → ℕ → ImageValue → List ℕ → Status → Type 0
IsSummaryDue setup size image text due =
    (report : ReportValue) × IsReportOf setup image report × (text ≡ summary_text size report) × (due ≡ status_of report)

-- What is due for a trial: its source means an image, and the summary is due for that.
abbrev pub IsTrialDue : Setup → ℕ → List ℕ → Status → Type 0
IsTrialDue setup size text due =
    (image : ImageValue) × (trial_meaning setup size ≡ Ok image) × IsSummaryDue setup size image text due

-- What is due for an order and the bytes of its input.
abbrev pub IsDue : Order → List ℕ → List ℕ → Status → Type 0
IsDue (orders.Run setup input) bytes = IsRunDue setup (image_in (meaning_of input bytes))
IsDue (orders.Asm memory_lines) bytes = IsImageDue (image_in (meaning_of (inputs.Source memory_lines) bytes))
IsDue orders.Replay bytes = IsCheckDue bytes
IsDue (orders.Trial setup size) bytes = IsTrialDue setup size
