-- M bounds the clocks of its row and the number of the rows up to it, so a core's whole timetable is within its budget.
use Rattle.std.proofs.Common.{◌≡◌, ℕ, zero, suc, ◌+◌, ◌<◌, ◌≤◌, inl, inr, List, [], ◌∷◌, length, sym, ◌∙◌, subst, ap, arith, length-append}
use Rattle.std.specs.Prelude.{Option, Some, None, IfSome}
use Rattle.std.specs.List.{AllByRecursion}
use Rattle.std.proofs.lemmas.Grind.{common_steps}
use Rattle.std_laws.proofs.ListLaws.{AllByRecursion-append}
use Rattle.mips_isa.specs.declared.Instr.{Instr}
use Rattle.timetable.specs.declared.rows.TimeRow.{TimeRow}
use Rattle.timetable.specs.Recurrence.{due_f, due_d, due_e, due_m}
use Rattle.timetable.specs.Tables.{Timed, timed, prior, ready_for, Executes, IsRow, IsStopRow, IsTable, past_of}
use Rattle.timetable.specs.Ends.{EndsInStop, IsDoneByEnd, IsLastBy, EndsSpent}
use Rattle.timetable.proofs.WithinLaws.{all-within}

-- All clocks of a row are so many at most.
pub record AreAtMost (most : ℕ) (row : TimeRow) : Type 0 where
  pub i : row.i ≤ most
  pub f : row.f ≤ most
  pub d : row.d ≤ most
  pub e : row.e ≤ most
  pub a : IfSome row.a (λ a. a ≤ most)
  pub m : row.m ≤ most
  pub w : IfSome row.w (λ w. w ≤ most)

-- E is behind the clocks before it, and not before the M of the row before.
record AreBefore (past : List Timed) (taken fetched decoded executed : ℕ) : Type 0 where
  i : taken < executed
  f : fetched < executed
  d : decoded < executed
  m : (prior past).m ≤ executed

before-e : (bound : Option ℕ) (past : List Timed) (instr : Option Instr) (i f d e : ℕ) → Executes bound past instr i f d e
    → AreBefore past i f d e
before-e bound past instr i f d e h =
    let f_later : i ≤ due_f (prior past) i = grind (arith, common_steps) in
    let d_later : f + 1 ≤ due_d (prior past) (ready_for past instr) f = grind (arith, common_steps) in
    let e_later : d + 1 ≤ due_e (prior past) d = grind (arith, common_steps) in
    let m_later : (prior past).m ≤ due_e (prior past) d = grind (arith, common_steps) in
    let first = h.decodes.begins.leaves in
    let second = h.decodes.decoded in record {
      i = omega (arith, f_later, d_later, e_later, first, second, h.executed);
      f = omega (arith, d_later, e_later, second, h.executed);
      d = omega (arith, e_later, h.executed);
      m = omega (arith, m_later, h.executed);
    }

answer-before : (e : ℕ) (a : Option ℕ) (m most : ℕ) → m ≡ due_m e a → m ≤ most → IfSome a (λ a. a ≤ most)
answer-before e None m most is within = tt
answer-before e (Some a) m most is within =
    let later : a ≤ due_m e (Some a) = grind (arith, common_steps) in
    omega (arith, later, is, within)

-- The row of an instruction that is executed, and that of a stop.
m-later : (bound : Option ℕ) (past : List Timed) (instr : Option Instr) (row : TimeRow) → IsRow bound past instr row → row.e < row.m
m-later bound past instr row h = (let later : row.e + 1 ≤ due_m row.e row.a = grind (arith, common_steps) in omega (arith, later, h.m))

row-at-most : (bound : Option ℕ) (past : List Timed) (instr : Option Instr) (row : TimeRow) (most : ℕ) → IsRow bound past instr row
    → row.m < most → AreAtMost most row
row-at-most bound past instr row most h within =
    let before = before-e bound past instr row.i row.f row.d row.e h.executes in
    let later = m-later bound past instr row h in
    let last : row.m + 1 ≤ most = omega (arith, within) in record {
      i = omega (arith, before.i, later, within);
      f = omega (arith, before.f, later, within);
      d = omega (arith, before.d, later, within);
      e = omega (arith, later, within);
      a = answer-before row.e row.a row.m most h.m (omega (arith, within));
      m = omega (arith, within);
      w = subst (λ w. IfSome w (λ w. w ≤ most)) (sym h.w) last;
    }

stop-at-most : (bound : Option ℕ) (past : List Timed) (instr : Option Instr) (row : TimeRow) (most : ℕ) → IsStopRow bound past instr row
    → row.m < most → AreAtMost most row
stop-at-most bound past instr row most h within =
    let before = before-e bound past instr row.i row.f row.d row.e h.executes in record {
      i = omega (arith, before.i, h.m, within);
      f = omega (arith, before.f, h.m, within);
      d = omega (arith, before.d, h.m, within);
      e = omega (arith, h.m, within);
      a = subst (λ a. IfSome a (λ a. a ≤ most)) (sym h.a) tt;
      m = omega (arith, within);
      w = subst (λ w. IfSome w (λ w. w ≤ most)) (sym h.w) tt;
    }

-- A table.
module _ (bound : Option ℕ) where
  pub table-length : (past : List Timed) (instrs : List (Option Instr)) (rows : List TimeRow) → IsTable bound past instrs rows
      → length rows ≡ length instrs
  table-length past [] [] h = omega arith
  table-length past [] (row ∷ rows) h = absurd h
  table-length past (instr ∷ instrs) [] h = absurd h
  table-length past (instr ∷ instrs) (row ∷ rows) h = omega (arith, table-length (timed instr row ∷ past) instrs rows h.1)

  -- M rises with each row.
  rows-before-m : (past : List Timed) (instrs : List (Option Instr)) (rows : List TimeRow) → IsTable bound past instrs rows
      → (prior past).m + length rows ≤ (prior (past_of past instrs rows)).m
  rows-before-m past [] [] h = omega arith
  rows-before-m past [] (row ∷ rows) h = absurd h
  rows-before-m past (instr ∷ instrs) [] h = absurd h
  rows-before-m past (instr ∷ instrs) (row ∷ rows) h =
      let before = before-e bound past instr row.i row.f row.d row.e h.0.executes in
      omega (arith, before.m, m-later bound past instr row h.0, rows-before-m (timed instr row ∷ past) instrs rows h.1)

  table-at-most : (limit : ℕ) (past : List Timed) (instrs : List (Option Instr)) (rows : List TimeRow) → IsTable bound past instrs rows
      → (prior (past_of past instrs rows)).m ≤ limit → AllByRecursion (AreAtMost (limit + 1)) rows
  table-at-most limit past [] [] h last = tt
  table-at-most limit past [] (row ∷ rows) h last = absurd h
  table-at-most limit past (instr ∷ instrs) [] h last = absurd h
  table-at-most limit past (instr ∷ instrs) (row ∷ rows) h last =
      let here : row.m ≤ limit = (all-within limit bound (timed instr row ∷ past) instrs rows h.1 last).1 in (
        row-at-most bound past instr row (limit + 1) h.0 (omega (arith, here)),
        table-at-most limit (timed instr row ∷ past) instrs rows h.1 last,
      )

  -- From the first row on, which leaves M in clock 2 at least.
  rows-few : (limit : ℕ) (instrs : List (Option Instr)) (rows : List TimeRow) → IsTable bound [] instrs rows
      → (prior (past_of [] instrs rows)).m ≤ limit + 1 → length rows ≤ limit
  rows-few limit instrs [] h last = omega arith
  rows-few limit [] (row ∷ rows) h last = absurd h
  rows-few limit (instr ∷ instrs) (row ∷ rows) h last =
      let before = before-e bound [] instr row.i row.f row.d row.e h.0.executes in
      omega (arith, before.d, m-later bound [] instr row h.0, rows-before-m (timed instr row ∷ []) instrs rows h.1, last)

-- A whole timetable is within a budget: it has so many instructions and rows at most, and W is one clock behind its M at most, which may
-- be one behind the budget.
pub record IsWithinBudget (budget : ℕ) (instrs : List (Option Instr)) (rows : List TimeRow) : Type 0 where
  pub executed : length instrs ≤ budget
  pub few : length rows ≤ budget
  pub clocks : AllByRecursion (AreAtMost (budget + 2)) rows

last-done : (budget : ℕ) (row : TimeRow) → IsDoneByEnd budget row → row.m ≤ budget + 1
last-done budget row (inl within) = omega (arith, within)
last-done budget row (inr found) = omega (arith, found.m)

last-by : (bound : Option ℕ) (budget : ℕ) (row : TimeRow) → IsLastBy bound budget row → row.m ≤ budget + 1
last-by None budget row h = last-done budget row h
last-by (Some zero) budget row h = omega (arith, h)
last-by (Some (suc bound)) budget row h = last-done budget row h

two-behind : (budget : ℕ) (rows : List TimeRow) → AllByRecursion (AreAtMost (budget + 1 + 1)) rows
    → AllByRecursion (AreAtMost (budget + 2)) rows
two-behind budget rows h =
    let same : budget + 1 + 1 ≡ budget + 2 = omega arith in
    subst (λ (most : ℕ). AllByRecursion (AreAtMost most) rows) same h

pub spent-within : (bound : Option ℕ) (instrs : List (Option Instr)) (instr : Option Instr) (budget : ℕ) (rows : List TimeRow)
    → EndsSpent bound instrs instr budget rows → IsWithinBudget budget instrs rows
spent-within bound instrs instr budget rows h =
    let last = last-by bound budget (prior (past_of [] instrs rows)) h.within in
    let few = rows-few bound budget instrs rows h.table last in record {
      executed = omega (arith, table-length bound [] instrs rows h.table, few);
      few = few;
      clocks = two-behind budget rows (table-at-most bound (budget + 1) [] instrs rows h.table last);
    }

pub stop-within : (bound : Option ℕ) (instrs : List (Option Instr)) (instr : Option Instr) (cycles budget : ℕ) (rows : List TimeRow)
    → EndsInStop bound instrs instr cycles rows → cycles ≤ budget → IsWithinBudget budget instrs rows
stop-within bound instrs instr cycles budget rows h within =
    let past = past_of [] instrs h.earlier in
    let before = before-e bound past instr h.row.i h.row.f h.row.d h.row.e h.last.executes in
    let few = rows-before-m bound [] instrs h.earlier h.table in
    let last : (prior past).m ≤ budget = omega (arith, before.m, h.last.m, h.at, within) in
    let late : (prior past).m ≤ budget + 1 = omega (arith, last) in
    let stop : h.row.m < budget + 2 = omega (arith, h.at, within) in
    let earlier = two-behind budget h.earlier (table-at-most bound (budget + 1) [] instrs h.earlier h.table late) in
    let clocks = AllByRecursion-append (AreAtMost (budget + 2)) h.earlier (h.row ∷ [])
    earlier (stop-at-most bound past instr h.row (budget + 2) h.last stop, tt) in
    let count : length rows ≡ length h.earlier + 1 =
    ap (λ (rows : List TimeRow). length rows) h.are ∙ length-append h.earlier (h.row ∷ []) in record {
      executed = omega (arith, table-length bound [] instrs h.earlier h.table, few, last);
      few = omega (arith, count, few, before.m, h.last.m, h.at, within);
      clocks = subst (AllByRecursion (AreAtMost (budget + 2))) (sym h.are) clocks;
    }
