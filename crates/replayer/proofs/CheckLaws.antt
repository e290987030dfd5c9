-- A report has no difference exactly where it is right.
use Rattle.std.proofs.Common.{◌≡◌, ℕ, List, [], length, refl, arith, Option, Some, None, sym, ap, ◌∙◌, inl, inr}
use Rattle.std.specs.Prelude.{IfNone, IfSome}
use Rattle.std.specs.List.{AllByRecursion}
use Rattle.std.proofs.lemmas.Option.{none-some, same_Some}
use Rattle.access_log.specs.declared.Item.{Item}
use Rattle.access_log.specs.Items.{entries}
use Rattle.access_log.specs.Replay.{FlatMachine, memory_bytes, entered_all}
use Rattle.image_file.specs.Value.{start_memory, memory_bytes as image_memory}
use Rattle.history_check.specs.History.{HistoryDiffers, HistoryIsRight}
use Rattle.history_check.proofs.OnlyLaws.{difference_isnt_right}
use Rattle.report_rows.specs.Bounds.{IsItem}
use Rattle.report_text.specs.Report.{ReportValue}
use Rattle.report_text.specs.Form.{IsReport}
use Rattle.report_text.specs.Right.{IsRightReport}
use Rattle.row_check.specs.declared.difference.Difference.{Difference}
use Rattle.row_check.specs.Judgments.{first_told}
use Rattle.replayer.specs.Outcome.{history_line, machine_of, outcome_judged}
use Rattle.replayer.specs.Difference.{IsDifference}
use Rattle.replayer.proofs.RightImage.{bytes_are}
use Rattle.replayer.proofs.RightRegisters.{IsMachine, is_machine}
use Rattle.replayer.proofs.RightLaws.{no_difference_is_right, right_has_no_difference}

-- one with a difference isn't right
pub different_is_wrong : (report : ReportValue) (difference : Difference) → IsReport report → IsDifference report difference
    → IsRightReport report → ⊥
different_is_wrong report difference is (inl h) right = difference_isnt_right h (right_has_no_difference report is right).1
different_is_wrong report difference is (inr h) right =
    let agrees = right_has_no_difference report is right in
    let machine : agrees.0 ≡ h.machine = same_Some agrees.0 h.machine (sym agrees.1.made ∙ h.right.made) in
    none-some difference (sym agrees.2 ∙ ap (λ (m : FlatMachine). first_told (outcome_judged report m)) machine ∙ h.first)

-- ---- the machine at the start, and when it has made the accesses

-- the history of a report is right
abbrev pub IsRightBy : ReportValue → FlatMachine → Type 0
IsRightBy report machine = HistoryIsRight report.setup report.image report.items (machine_of report) machine

pub right_by : (given report : ReportValue) (items : List Item) (start machine : FlatMachine) → given ≡ report → items ≡ given.items
    → start ≡ machine_of report
    → HistoryIsRight given.setup given.image items start machine → IsRightBy report machine
right_by given report items start machine is items_are start_is right = rw (items_are, start_is, is) at right

pub differs_by : (given report : ReportValue) (items : List Item) (start : FlatMachine) (line : ℕ) (difference : Difference)
    → given ≡ report → items ≡ given.items → start ≡ machine_of report → line ≡ history_line report
    → HistoryDiffers given.setup given.image line items start difference
    → HistoryDiffers report.setup report.image (history_line report) report.items (machine_of report) difference
differs_by given report items start line difference is items_are start_is line_is differs =
    rw (items_are, start_is, is, line_is) at differs

-- it has the report's code, as many cores, and as much memory
pub machine_fits : (report : ReportValue) (machine : FlatMachine) → entered_all (entries report.items) (machine_of report) ≡ Some machine
    → IsMachine report.image.code report.setup.cores (length (start_memory report.image)) machine
machine_fits report machine made =
    is_machine report.image (start_memory report.image) report.setup.cores (entries report.items) machine made

pub start_fits : (report : ReportValue)
    → IsMachine report.image.code report.setup.cores (length (start_memory report.image)) (machine_of report)
unfolding entered_all
start_fits report = is_machine report.image (start_memory report.image) report.setup.cores [] (machine_of report) refl

pub items_within : (given report : ReportValue) (items : List Item) (start : FlatMachine) → IsReport report → given ≡ report
    → items ≡ given.items → start ≡ machine_of report
    → AllByRecursion (IsItem given.setup.machine given.setup.cores (memory_bytes start)) items
items_within given report items start is same items_are start_is =
    let bytes : memory_bytes (machine_of report) ≡ image_memory report.image =
    omega (arith, (start_fits report).words_are, bytes_are report is) in
    rw (items_are, start_is, same, bytes) is.items

-- what is told behind a history that is right

pub none_told : (report : ReportValue) (machine : FlatMachine) → IsReport report → IsRightBy report machine → (told : Option Difference)
    → told ≡ first_told (outcome_judged report machine) → IfNone told (IsRightReport report)
none_told report machine is right None told_is = no_difference_is_right report is machine right (sym told_is)
none_told report machine is right (Some difference) told_is = tt

pub some_told : (report : ReportValue) (machine : FlatMachine) → IsRightBy report machine → (told : Option Difference)
    → told ≡ first_told (outcome_judged report machine) → IfSome told (λ difference. IsDifference report difference)
some_told report machine right None told_is = tt
some_told report machine right (Some difference) told_is =
    inr (record { machine = machine; right = right; first = sym told_is })
