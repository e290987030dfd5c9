-- All judgments of a core's rows agree exactly where they are the rows of its end.
use Rattle.std.proofs.Common.{◌≡◌, ℕ, ◌+◌, ◌-◌, ◌<◌, List, [], ◌∷◌, ◌++◌, length, ap, sym, ◌∙◌, arith, subst, length-append}
use Rattle.std.specs.Prelude.{Option, Some, None, slice_get}
use Rattle.std.specs.Option.{option_map}
use Rattle.std_laws.proofs.ListLaws.{slice_get_at}
use Rattle.mips_isa.specs.declared.Instr.{Instr}
use Rattle.timetable.specs.declared.rows.TimeRow.{TimeRow}
use Rattle.timetable.specs.Recurrence.{last_where}
use Rattle.timetable.specs.Tables.{Timed, timed, IsTable, past_of}
use Rattle.timetable.specs.AtOnce.{first_m, past_at_once}
use Rattle.timetable.specs.Ends.{IsBeyond, EndsInStop, EndsSpent}
use Rattle.timetable.proofs.FirstClockLaws.{past-first}
use Rattle.row_check.specs.Rows.{row_judged, rows_judged}
use Rattle.row_check.proofs.JudgmentLaws.{Agree}
use Rattle.row_check.proofs.LimitLemmas.{limited-last, last-limited}
use Rattle.row_check.proofs.RowLemmas.{row-is, spent-is, spent-agrees, stopped-is, stopped-agrees}

module _ (line : ℕ) (bound : Option ℕ) (instrs : List (Option Instr)) (stop : Option Instr) (rows : List TimeRow) where
  -- Rows of the instructions that were executed, all judgments of which agree, are a timetable.
  pub table-from : (limit : Option ℕ) → length rows ≡ length instrs → Agree (rows_judged line bound limit [] instrs stop rows)
      → IsTable bound [] instrs rows
  table-from limit count all = (spent-is line bound limit [] instrs stop rows count all).0

  -- A spent core has as many rows as it executed instructions, all their judgments agree, and what comes next is beyond its budget.
  pub spent-from : (budget : ℕ) → length rows ≡ length instrs → Agree (rows_judged line bound (Some budget) [] instrs stop rows)
      → IsBeyond bound budget (past_of [] instrs rows) stop → EndsSpent bound instrs stop budget rows
  spent-from budget count all beyond =
      let h = spent-is line bound (Some budget) [] instrs stop rows count all in
      record { table = h.0; within = limited-last bound budget [] instrs rows h.0 (omega arith) h.1; no_more = beyond }

  pub spent-to : (budget : ℕ) → EndsSpent bound instrs stop budget rows
      → (length rows ≡ length instrs) × Agree (rows_judged line bound (Some budget) [] instrs stop rows)
  spent-to budget h =
      spent-agrees line bound (Some budget) [] instrs stop rows h.table (last-limited bound budget instrs rows h.table h.within)

  -- the M of the last row
  abbrev last_m : Option ℕ
  last_m = option_map (λ (row : TimeRow). row.m) (last_where rows)

  last-is : (earlier : List TimeRow) (row : TimeRow) → rows ≡ earlier ++ row ∷ [] → last_m ≡ Some row.m
  last-is earlier row are =
      let count : length earlier ≡ length rows - 1 = omega (arith, ap length are ∙ length-append earlier (row ∷ [])) in
      ap (λ (o : Option TimeRow). option_map (λ (r : TimeRow). r.m) o)
      (ap (λ (l : List TimeRow). slice_get l (length rows - 1)) are ∙ slice_get_at earlier row [] (length rows - 1) count)

  -- A core that stopped has a row more, all their judgments agree, and the M of the last one is the count of its cycles.
  pub stopped-from : (cycles : ℕ) → length rows ≡ length instrs + 1 → Agree (rows_judged line bound None [] instrs stop rows)
      → option_map (λ (row : TimeRow). row.m) (last_where rows) ≡ Some cycles → EndsInStop bound instrs stop cycles rows
  stopped-from cycles count all last =
      let h = stopped-is bound line [] instrs stop rows count all in
      let at : h.row.m ≡ cycles = cc (last-is h.earlier h.row h.are) in
      record { earlier = h.earlier; row = h.row; are = h.are; table = h.table; last = h.last; at = at }

  pub stopped-to : (cycles : ℕ) → EndsInStop bound instrs stop cycles rows
      → (length rows ≡ length instrs + 1) × Agree (rows_judged line bound None [] instrs stop rows)
      × (option_map (λ (row : TimeRow). row.m) (last_where rows) ≡ Some cycles)
  stopped-to cycles h =
      let judged = stopped-agrees bound line [] instrs stop rows
      (record { earlier = h.earlier; row = h.row; are = h.are; table = h.table; last = h.last }) in
      (judged.0, judged.1, last-is h.earlier h.row h.are ∙ ap (λ (n : ℕ). Some n) h.at)

-- ---- where words and answers come at once

module _ (instrs : List (Option Instr)) (stop : Option Instr) (rows : List TimeRow) (budget : ℕ) where
  -- behind such rows, what comes next would not be done within a budget
  abbrev IsLate : List Timed → Type 0
  IsLate past = budget < first_m past stop

  -- What comes next is beyond the budget exactly where it would be so behind the instructions alone.
  pub beyond-from : IsTable (Some 0) [] instrs rows → budget < first_m (past_at_once [] instrs) stop
      → IsBeyond (Some 0) budget (past_of [] instrs rows) stop
  beyond-from table late = (let later = subst IsLate (sym (past-first [] instrs rows table)) late in omega (arith, later))

  pub beyond-to : IsTable (Some 0) [] instrs rows → IsBeyond (Some 0) budget (past_of [] instrs rows) stop
      → budget < first_m (past_at_once [] instrs) stop
  beyond-to table beyond =
      let later : IsLate (past_of [] instrs rows) = omega (arith, beyond) in subst IsLate (past-first [] instrs rows table) later

-- Behind a row whose judgments all agree, the clocks are those behind its instruction.
pub row-at_once : (line : ℕ) (limit : Option ℕ) (past : List Timed) (instr : Option Instr) (row : TimeRow)
    → Agree (row_judged line (Some 0) limit past instr row) → timed instr row ∷ past ≡ past_at_once past (instr ∷ [])
row-at_once line limit past instr row all =
    past-first past (instr ∷ []) (row ∷ []) ((row-is line (Some 0) limit past instr row all).0, tt)
