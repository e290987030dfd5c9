-- M rises along a table, so all rows are within a limit exactly where the last one is.
use Rattle.std.proofs.Common.{ℕ, ◌+◌, ◌≤◌, List, [], ◌∷◌, arith}
use Rattle.std.specs.Prelude.{Option, Some, None}
use Rattle.std.specs.List.{AllByRecursion}
use Rattle.std.proofs.lemmas.Grind.{common_steps}
use Rattle.mips_isa.specs.declared.Instr.{Instr}
use Rattle.timetable.specs.declared.rows.TimeRow.{TimeRow}
use Rattle.timetable.specs.Recurrence.{due_e, due_m}
use Rattle.timetable.specs.Tables.{Timed, timed, prior, IsRow, IsTable, past_of}

-- A clock is within a limit, where there is one.
abbrev pub IsWithin : Option ℕ → ℕ → Type 0
IsWithin None clock = Unit {0}
IsWithin (Some limit) clock = clock ≤ limit

-- The M of each row is.
abbrev pub AreWithin : Option ℕ → List TimeRow → Type 0
AreWithin limit rows = AllByRecursion (λ (row : TimeRow). IsWithin limit row.m) rows

-- No instruction leaves M before the one that it follows.
pub m-rises : (bound : Option ℕ) (past : List Timed) (instr : Option Instr) (row : TimeRow) → IsRow bound past instr row
    → (prior past).m ≤ row.m
m-rises bound past instr row h =
    let e : (prior past).m ≤ due_e (prior past) row.d = grind (arith, common_steps) in
    let m : row.e + 1 ≤ due_m row.e row.a = grind (arith, common_steps) in
    omega (arith, e, m, h.m, h.executes.executed)

module _ (limit : ℕ) (bound : Option ℕ) where
  -- Where the last row is within a limit, each row is, and what came before them.
  pub all-within : (past : List Timed) (instrs : List (Option Instr)) (rows : List TimeRow) → IsTable bound past instrs rows
      → (prior (past_of past instrs rows)).m ≤ limit → AreWithin (Some limit) rows × ((prior past).m ≤ limit)
  all-within past [] [] h last = (tt, last)
  all-within past [] (row ∷ rows) h last = absurd h
  all-within past (instr ∷ instrs) [] h last = absurd h
  all-within past (instr ∷ instrs) (row ∷ rows) h last =
      let more = all-within (timed instr row ∷ past) instrs rows h.1 last in
      let rises = m-rises bound past instr row h.0 in
      let here : row.m ≤ limit = more.1 in
      ((here, more.0), omega (arith, rises, here))
