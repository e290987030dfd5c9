-- What is due in the rows of a timetable, where words and answers come within a bound: a memory that answers at once has the
-- bound 0, and of one without a bound only the soonest clocks are known.
use Rattle.std.specs.Prelude.{◌≡◌, ℕ, zero, ◌+◌, ◌==◌, min, max, nat_lt, if◌then◌else◌, Bool, true, false, ◌&&◌, Option, Some, None}
use Rattle.std.specs.Prelude.{List, [], ◌∷◌, ◌++◌, length}
use Rattle.mips_isa.specs.declared.Instr.{Instr}
use Rattle.mips_isa.specs.declared.Kind.{Kind}
use Rattle.mips_isa.specs.Steps.{kind_at}
use Rattle.access_log.specs.declared.field.Field.TheVariants as fields
use Rattle.timetable.specs.declared.rows.TimeRow.{TimeRow}
use Rattle.timetable.specs.Recurrence.{due_f, due_d, due_e, due_m}
use Rattle.timetable.specs.Tables.{Timed, timed, prior, ready_for}
use Rattle.row_check.specs.Judgments.{Judgment, number, optional, allowed, is_same_optional}

-- The clock that is due of one that is kept: the first one at the soonest, and with a bound so many later at the latest.
abbrev pub due_within : Option ℕ → ℕ → ℕ → ℕ
due_within None first kept = max first kept
due_within (Some bound) first kept = max first (min kept (first + bound))

-- The clock in which a word is due. Off the code none is fetched, and so none is waited for.
abbrev pub word_within : Option ℕ → Option Instr → ℕ → ℕ → ℕ
word_within bound None first kept = first
word_within bound (Some instr) first kept = due_within bound first kept

-- The clock in which an answer is due, behind E. Where one is missing, the first clock is.
abbrev pub answer_within : Option ℕ → Option Kind → ℕ → Option ℕ → Option ℕ
answer_within bound None e kept = None
answer_within bound (Some kind) e None = Some (e + 1)
answer_within bound (Some kind) e (Some kept) = Some (due_within bound (e + 1) kept)

-- Whether an answer may come later than in the cycle in which it is asked.
abbrev pub may_be_late : Option ℕ → Bool
may_be_late (Some zero) = false
may_be_late bound = true

-- The last cycle in which the instruction of a row may be done, where its core had so many. An access that was still open at the
-- end may have been found answered as it was withdrawn: the last row may have its answer in the cycle that would come next.
abbrev pub limit_for : Option ℕ → Option ℕ → Bool → TimeRow → Option ℕ
limit_for bound None is_last row = None
limit_for bound (Some limit) is_last row =
    if is_last && may_be_late bound && is_same_optional row.a (Some (limit + 1)) then Some (limit + 1) else Some limit

-- The clock in which an instruction leaves M; beyond a limit, where there is one, nothing is due.
abbrev pub limited : ℕ → Option ℕ → ℕ → ℕ → Judgment
limited line None kept due = number line fields.M kept due
limited line (Some limit) kept due = if nat_lt limit due then allowed line fields.M kept false else number line fields.M kept due

-- The fields up to E, which any instruction has.
abbrev pub front_judged : ℕ → Option ℕ → List Timed → Option Instr → TimeRow → List Judgment
front_judged line bound past instr row =
    number line fields.I row.i (word_within bound instr ((prior past).f + 1) row.i)
    ∷ number line fields.F row.f (due_f (prior past) row.i)
    ∷ number line fields.D row.d (due_d (prior past) (ready_for past instr) row.f)
    ∷ number line fields.E row.e (due_e (prior past) row.d)
    ∷ []

-- The fields behind E of an instruction that is executed, within a limit where there is one.
abbrev pub back_judged : ℕ → Option ℕ → Option ℕ → Option Instr → TimeRow → List Judgment
back_judged line bound limit instr row =
    optional line fields.A row.a (answer_within bound (kind_at instr) row.e row.a)
    ∷ limited line limit row.m (due_m row.e row.a)
    ∷ optional line fields.W row.w (Some (row.m + 1))
    ∷ []

-- The row of an instruction that is executed.
abbrev pub row_judged : ℕ → Option ℕ → Option ℕ → List Timed → Option Instr → TimeRow → List Judgment
row_judged line bound limit past instr row = front_judged line bound past instr row ++ back_judged line bound limit instr row

-- The fields behind E of an instruction that stops: it makes no access, and doesn't come to WB.
abbrev pub halt_judged : ℕ → TimeRow → List Judgment
halt_judged line row =
    optional line fields.A row.a None
    ∷ number line fields.M row.m (due_m row.e row.a)
    ∷ optional line fields.W row.w None
    ∷ []

-- The row of an instruction that stops.
abbrev pub stop_judged : ℕ → Option ℕ → List Timed → Option Instr → TimeRow → List Judgment
stop_judged line bound past instr row = front_judged line bound past instr row ++ halt_judged line row

-- The rows from a line on, behind such a past: those of the instructions that were executed, and where the core stopped, that of
-- the one at its stop.
abbrev pub rows_judged : ℕ → Option ℕ → Option ℕ → List Timed → List (Option Instr) → Option Instr → List TimeRow → List Judgment
rows_judged line bound limit past [] stop [] = []
rows_judged line bound limit past [] stop (row ∷ rows) = stop_judged line bound past stop row
rows_judged line bound limit past (instr ∷ instrs) stop [] = []
rows_judged line bound limit past (instr ∷ instrs) stop (row ∷ rows) =
    row_judged line bound (limit_for bound limit (length rows == 0) row) past instr row
    ++ rows_judged (line + 1) bound limit (timed instr row ∷ past) instrs stop rows

-- The limit of a row is the same as if others came behind it.
abbrev pub KeepsLimit : Option ℕ → Option ℕ → TimeRow → Type 0
KeepsLimit bound limit row = limit_for bound limit true row ≡ limit
