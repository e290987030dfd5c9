-- The clocks of instructions whose words and answers come at once: they follow from the instructions.
use Rattle.std.specs.Prelude.{ℕ, ◌+◌, Option, Some, None, List, [], ◌∷◌}
use Rattle.mips_isa.specs.declared.Instr.{Instr}
use Rattle.mips_isa.specs.declared.Kind.{Kind}
use Rattle.mips_isa.specs.Steps.{kind_at}
use Rattle.timetable.specs.declared.rows.TimeRow.{TimeRow}
use Rattle.timetable.specs.Recurrence.{due_f, due_d, due_e}
use Rattle.timetable.specs.Tables.{Timed, timed, prior, ready_for}

-- The first clocks in which the instruction behind such rows can leave IF, ID and M.
abbrev pub first_f : List Timed → ℕ
first_f past = due_f (prior past) ((prior past).f + 1)

abbrev pub first_d : List Timed → Option Instr → ℕ
first_d past instr = due_d (prior past) (ready_for past instr) (first_f past)

abbrev pub first_m : List Timed → Option Instr → ℕ
first_m past instr = due_e (prior past) (first_d past instr) + 1

-- The first clock in which an access is answered, where one is made.
abbrev pub answer_at : Option Kind → ℕ → Option ℕ
answer_at None e = None
answer_at (Some kind) e = Some (e + 1)

-- The row of an instruction that is executed.
abbrev pub row_at_once : List Timed → Option Instr → TimeRow
row_at_once past instr = record {
  i = (prior past).f + 1;
  f = first_f past;
  d = first_d past instr;
  e = due_e (prior past) (first_d past instr);
  a = answer_at (kind_at instr) (due_e (prior past) (first_d past instr));
  m = first_m past instr;
  w = Some (first_m past instr + 1);
}

-- The rows of instructions that are executed in this order, behind such a past.
abbrev pub past_at_once : List Timed → List (Option Instr) → List Timed
past_at_once past [] = past
past_at_once past (instr ∷ instrs) = past_at_once (timed instr (row_at_once past instr) ∷ past) instrs
