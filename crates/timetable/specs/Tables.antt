-- The timetable of a core: its instructions, and their clocks.
use Rattle.std.specs.Prelude.{◌≡◌, ℕ, ◌+◌, ◌<◌, ◌≤◌, Option, Some, None, if◌then◌else◌, List, [], ◌∷◌}
use Rattle.mips_isa.specs.declared.Instr.{Instr}
use Rattle.mips_isa.specs.declared.Kind.{Kind}
use Rattle.mips_isa.specs.Effects.{rs_of, rt_of, expected_by}
use Rattle.mips_isa.specs.Steps.{kind_at}
use Rattle.pipe_regs.specs.Slots.{is_load, is_written_by}
use Rattle.timetable.specs.declared.rows.TimeRow.{TimeRow}
use Rattle.timetable.specs.Recurrence.{greater, no_row, due_f, due_d, due_e, due_m}

-- An instruction with its row; `None` stands for a place that isn't on the code. A list of these has the latest first.
pub record Timed : Type 0 where
  pub instr : Option Instr
  pub row : TimeRow

abbrev pub timed : Option Instr → TimeRow → Timed
timed instr row = record { instr = instr; row = row }

-- The row before what comes next.
abbrev pub prior : List Timed → TimeRow
prior [] = no_row
prior (last ∷ before) = last.row

-- When a register is ready: behind M of its last earlier writer, where that is a load.
abbrev pub ready_in : List Timed → ℕ → ℕ
ready_in [] r = 0
ready_in (last ∷ before) r =
    if is_written_by last.instr r then (if is_load last.instr then last.row.m + 1 else 0) else ready_in before r

-- When all that an instruction reads is ready.
abbrev pub ready_for : List Timed → Option Instr → ℕ
ready_for past None = 0
ready_for past (Some instr) =
    greater (ready_in past (rs_of instr)) (greater (ready_in past (rt_of instr)) (ready_in past (expected_by instr)))

-- A clock is at most so many behind the first that it could be. Without a number there is no bound.
abbrev pub IsSoon : Option ℕ → ℕ → ℕ → Type 0
IsSoon None first clock = Unit {0}
IsSoon (Some bound) first clock = clock ≤ first + bound

-- The word of an instruction is taken once the instruction before it has left IF. Off the code none is waited for.
pub record Takes (bound : Option ℕ) (past : List Timed) (instr : Option Instr) (i : ℕ) : Type 0 where
  pub later : (prior past).f < i
  pub off : instr ≡ None → i ≡ (prior past).f + 1
  pub soon : IsSoon bound ((prior past).f + 1) i

-- The clocks of a row that follows such rows, stage by stage: to F, to D and to E.
pub record Begins (bound : Option ℕ) (past : List Timed) (instr : Option Instr) (i f : ℕ) : Type 0 where
  pub taken : Takes bound past instr i
  pub leaves : f ≡ due_f (prior past) i

pub record Decodes (bound : Option ℕ) (past : List Timed) (instr : Option Instr) (i f d : ℕ) : Type 0 where
  pub begins : Begins bound past instr i f
  pub decoded : d ≡ due_d (prior past) (ready_for past instr) f

pub record Executes (bound : Option ℕ) (past : List Timed) (instr : Option Instr) (i f d e : ℕ) : Type 0 where
  pub decodes : Decodes bound past instr i f d
  pub executed : e ≡ due_e (prior past) d

-- An access is answered behind E; an instruction that makes none has no answer.
abbrev pub IsAnswered : Option ℕ → Option Kind → ℕ → Option ℕ → Type 0
IsAnswered bound None e a = a ≡ None
IsAnswered bound (Some kind) e None = ⊥
IsAnswered bound (Some kind) e (Some a) = (e < a) × IsSoon bound (e + 1) a

-- The row of an instruction that is executed.
pub record IsRow (bound : Option ℕ) (past : List Timed) (instr : Option Instr) (row : TimeRow) : Type 0 where
  pub executes : Executes bound past instr row.i row.f row.d row.e
  pub a : IsAnswered bound (kind_at instr) row.e row.a
  pub m : row.m ≡ due_m row.e row.a
  pub w : row.w ≡ Some (row.m + 1)

-- The row of an instruction that stops: it makes no access, and doesn't come to WB.
pub record IsStopRow (bound : Option ℕ) (past : List Timed) (instr : Option Instr) (row : TimeRow) : Type 0 where
  pub executes : Executes bound past instr row.i row.f row.d row.e
  pub a : row.a ≡ None
  pub m : row.m ≡ row.e + 1
  pub w : row.w ≡ None

-- Rows of instructions that are executed in this order, behind such a past.
abbrev pub IsTable : Option ℕ → List Timed → List (Option Instr) → List TimeRow → Type 0
IsTable bound past [] [] = Unit {0}
IsTable bound past [] (row ∷ rows) = ⊥
IsTable bound past (instr ∷ instrs) [] = ⊥
IsTable bound past (instr ∷ instrs) (row ∷ rows) = IsRow bound past instr row × IsTable bound (timed instr row ∷ past) instrs rows

-- Behind such a past, instructions and their rows in order, as a past themselves.
abbrev pub past_of : List Timed → List (Option Instr) → List TimeRow → List Timed
past_of past [] rows = past
past_of past (instr ∷ instrs) [] = past
past_of past (instr ∷ instrs) (row ∷ rows) = past_of (timed instr row ∷ past) instrs rows
