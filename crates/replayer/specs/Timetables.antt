-- What is due in the timetables of cores.
use Rattle.std.specs.Prelude.{◌≡◌, ℕ, ◌+◌, Option, Some, None, IfSome, List, [], ◌∷◌, ◌++◌, length, slice_get, get_or}
use Rattle.kmp_base.specs.declared.setup.Setup.{Setup}
use Rattle.kmp_base.specs.declared.setup.MachineKind.{MachineKind}
use Rattle.kmp_base.specs.declared.setup.MachineKind.TheVariants.{Full}
use Rattle.image_file.specs.Value.{ImageValue}
use Rattle.access_log.specs.declared.Entry.{Entry}
use Rattle.access_log.specs.Replay.{own}
use Rattle.timetable.specs.declared.End.{End}
use Rattle.timetable.specs.declared.End.TheVariants.{Stopped, Spent}
use Rattle.mips_isa.specs.declared.Instr.{Instr}
use Rattle.access_log.specs.Items.{entries}
use Rattle.timetable.specs.AtOnce.{past_at_once}
use Rattle.timetable.specs.Trace.{instr_on}
use Rattle.right_run.specs.Stages.{executed_by}
use Rattle.report_rows.specs.Ends.{EndValue}
use Rattle.report_text.specs.Report.{ReportValue}
use Rattle.row_check.specs.declared.clocks.Clocks.{Clocks}
use Rattle.row_check.specs.Clocks.{AreOf, AreWithin}
use Rattle.row_check.specs.Judgments.{Judgment}
use Rattle.row_check.specs.Rows.{rows_judged}

-- How many cycles later than at once a word or an answer may come, by the machine: flat memory lets nothing wait. Over caches there is
-- no bound.
abbrev pub bound_on : MachineKind → Option ℕ
bound_on Full = None
bound_on machine = Some 0

-- The last cycle in which an instruction of a core may be done: a spent core had no more than its budget.
abbrev pub limit_of : ℕ → End → Option ℕ
limit_of budget (Stopped stop) = None
limit_of budget Spent = Some budget

-- Clocks that are known to be those behind some instructions whose words and answers came at once.
abbrev pub AreAtOnce : List (Option Instr) → Clocks → Type 0
AreAtOnce instrs known = AreOf known (past_at_once [] instrs) × AreWithin 1000000 known

-- Where nothing waits, clocks that are known are those.
abbrev pub AreKnown : Option ℕ → Option Clocks → List (Option Instr) → Type 0
AreKnown bound clocks instrs = bound ≡ Some 0 → IfSome clocks (AreAtOnce instrs)

-- So far as they are known, they are those behind the instructions of each core.
abbrev pub EachKnown : ReportValue → List (Option Clocks) → Type 0
EachKnown report clocks = (core : ℕ) (kept : EndValue) → slice_get report.cores core ≡ Some kept
    → AreKnown (bound_on report.setup.machine) (get_or clocks core None)
    (executed_by report.image core report.setup.cores (own (entries report.items) core) kept.retired)

-- The timetable of the core with a number that made these accesses.
abbrev pub timetable_judged : ℕ → Setup → ImageValue → ℕ → List Entry → EndValue → List Judgment
timetable_judged line setup image core accesses kept =
    rows_judged line (bound_on setup.machine) (limit_of setup.budget kept.end) []
    (executed_by image core setup.cores accesses kept.retired)
    (instr_on image.code kept.state.dpc) kept.rows

-- Those of the cores from a number on, from a line on, behind these accesses.
abbrev pub timetables_judged : ℕ → Setup → ImageValue → List Entry → ℕ → List EndValue → List Judgment
timetables_judged line setup image order core [] = []
timetables_judged line setup image order core (kept ∷ ends) =
    timetable_judged line setup image core (own order core) kept
    ++ timetables_judged (line + length kept.rows) setup image order (core + 1) ends
