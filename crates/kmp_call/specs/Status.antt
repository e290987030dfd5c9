-- The status of each way in which the program ends.
use Rattle.std.specs.Prelude.{◌≡◌, ◌⊎◌, ℕ, Result, Ok, Err, if◌then◌else◌}
use Rattle.std.specs.List.{list_all}
use Rattle.report_rows.specs.Ends.{EndValue}
use Rattle.timetable.specs.Outcome.{is_halt}
use Rattle.report_text.specs.Report.{ReportValue}
use Rattle.kmp_call.specs.declared.status.Status.{Status}
use Rattle.kmp_call.specs.declared.status.Status.TheVariants.{Done, OtherEnd, WordsRefused, InputRefused, ReportRefused, ReadFault}
use Rattle.kmp_call.specs.declared.status.Status.TheVariants.{WriteFault, NoMemory, Differs, WordsUnreadable}

abbrev pub code_of : Status → ℕ
code_of Done = 0
code_of OtherEnd = 1
code_of (WordsRefused fault) = 2
code_of (InputRefused refusal) = 3
code_of (ReportRefused line) = 3
code_of ReadFault = 4
code_of WriteFault = 5
code_of NoMemory = 6
code_of (Differs line) = 7
code_of WordsUnreadable = 8

-- Whether every core ended at a `halt`.
abbrev pub status_of : ReportValue → Status
status_of report = if list_all (λ (core : EndValue). is_halt core.end) report.cores then Done else OtherEnd

-- The status that is due, unless the write failed.
abbrev pub after_write : {T E : Type 0} → Status → Result T E → Status
after_write due (Ok value) = due
after_write due (Err fault) = WriteFault

-- A status that tells what became of an input, and no fault of words, streams or memory.
abbrev pub IsOfInput : Status → Type 0
IsOfInput status = (code_of status ≡ 0) ⊎ ((code_of status ≡ 1) ⊎ ((code_of status ≡ 3) ⊎ (code_of status ≡ 7)))
