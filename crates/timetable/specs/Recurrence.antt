-- The clocks of an instruction, from those of the instruction before it and from when memory answers.
--
-- I is the clock in which its word is taken, A the one in which the answer to its access is; in F, D, E, M and W it leaves
-- the stages of the fetch, of decoding, of execution, of memory and of the write.
use Rattle.std.specs.Prelude.{◌≡◌, ℕ, ◌+◌, ◌-◌, ◌≤◌, nat_lt, Bool, true, false, if◌then◌else◌, Option, Some, None, List, length}
use Rattle.std.specs.Prelude.{slice_get}
use Rattle.mips_isa.specs.declared.Instr.{Instr}
use Rattle.mips_isa.specs.declared.Instr.TheVariants.{Halt}
use Rattle.mips_isa.specs.declared.Kind.{Kind}
use Rattle.mips_isa.specs.Effects.{kind_of}
use Rattle.mips_isa.specs.Steps.{kind_at}
use Rattle.timetable.specs.declared.rows.TimeRow.{TimeRow}

abbrev pub greater : ℕ → ℕ → ℕ
greater a b = if nat_lt a b then b else a

-- Before the first row all clocks are 0.
abbrev pub no_row : TimeRow
no_row = record { i = 0; f = 0; d = 0; e = 0; a = None; m = 0; w = None }

-- An operand that comes from a load is ready in the clock behind the load's M; another one always is.
abbrev pub ready_after : Option ℕ → ℕ
ready_after None = 0
ready_after (Some m) = m + 1

-- The clock of an answer, where there is one.
abbrev pub answered_in : Option ℕ → ℕ
answered_in None = 0
answered_in (Some a) = a

-- F: the word is there, and the instruction before has left ID.
abbrev pub due_f : TimeRow → ℕ → ℕ
due_f prior i = greater i prior.d

-- D: a clock in ID, the instruction before has left EX, and the operands are ready.
abbrev pub due_d : TimeRow → ℕ → ℕ → ℕ
due_d prior ready f = greater (f + 1) (greater prior.e ready)

-- E: a clock in EX, and the instruction before has left M.
abbrev pub due_e : TimeRow → ℕ → ℕ
due_e prior d = greater (d + 1) prior.m

-- M: a clock in M, and the access is answered.
abbrev pub due_m : ℕ → Option ℕ → ℕ
due_m e a = greater (e + 1) (answered_in a)

-- W: a clock in WB, for an instruction that is executed.
abbrev pub due_w : Bool → ℕ → Option ℕ
due_w executed m = if executed then Some (m + 1) else None

-- The clock in which the word is taken: off the code there is none to wait for.
abbrev pub taken_in : TimeRow → Option Instr → ℕ → ℕ
taken_in prior None i = prior.f + 1
taken_in prior (Some instr) i = i

-- The answer of an instruction's access; none where it makes no access.
abbrev pub answer_for : Option Kind → Option ℕ → Option ℕ
answer_for None a = None
answer_for (Some kind) a = a

-- Whether the access of an instruction is made, where it makes one.
abbrev pub is_made : Option Kind → Option ℕ → Bool
is_made None a = true
is_made (Some kind) None = false
is_made (Some kind) (Some a) = true

-- Whether an instruction is executed. It stops off the code, at a halt, and where its access isn't made.
unfoldable pub is_executed : Option Instr → Option ℕ → Bool
is_executed None a = false
is_executed (Some Halt) a = false
is_executed (Some instr) a = is_made (kind_of instr) a

-- The row behind a row, for an instruction that reads from a load with this M at the latest, whose word came in a clock, and
-- the answer to whose access in another.
pub record IsNextRow (prior : TimeRow) (instr : Option Instr) (writer : Option ℕ) (word : ℕ) (answer : Option ℕ) (row : TimeRow)
    : Type 0 where
  pub i : row.i ≡ taken_in prior instr word
  pub f : row.f ≡ due_f prior row.i
  pub d : row.d ≡ due_d prior (ready_after writer) row.f
  pub e : row.e ≡ due_e prior row.d
  pub a : row.a ≡ answer_for (kind_at instr) answer
  pub m : row.m ≡ due_m row.e row.a
  pub w : row.w ≡ due_w (is_executed instr answer) row.m

abbrev pub last_where : List TimeRow → Option TimeRow
last_where rows = slice_get rows (length rows - 1)

abbrev pub row_or_none : Option TimeRow → TimeRow
row_or_none None = no_row
row_or_none (Some row) = row

-- The last row.
abbrev pub last_of : List TimeRow → TimeRow
last_of rows = row_or_none (last_where rows)

-- Clocks that the next row's can be told from.
pub record AreSmall (row : TimeRow) : Type 0 where
  pub f : row.f ≤ 1000000
  pub d : row.d ≤ 1000000
  pub e : row.e ≤ 1000000
  pub m : row.m ≤ 1000000
