-- On a memory that answers at once the clocks of a row are the first in which its instruction can pass.
use Rattle.std.proofs.Common.{◌≡◌, ℕ, ◌+◌, ◌≤◌, refl, ap, sym, ◌∙◌, arith, List, [], ◌∷◌}
use Rattle.std.specs.Prelude.{Option, Some, None}
use Rattle.std.proofs.lemmas.Grind.{common_steps}
use Rattle.mips_isa.specs.declared.Instr.{Instr}
use Rattle.mips_isa.specs.declared.Kind.{Kind}
use Rattle.mips_isa.specs.Steps.{kind_at}
use Rattle.timetable.specs.declared.rows.TimeRow.{TimeRow}
use Rattle.timetable.specs.Recurrence.{greater, due_f, due_d, due_e, due_m}
use Rattle.timetable.specs.Tables.{Timed, timed, prior, ready_for, Takes, Begins, Decodes, Executes, IsAnswered, IsRow, IsTable, past_of}
use Rattle.timetable.specs.AtOnce.{first_f, first_d, first_m, answer_at, row_at_once, past_at_once}

greater-at-least : (a b : ℕ) → (a ≤ greater a b) × (b ≤ greater a b)
greater-at-least a b = (grind (arith, common_steps), grind (arith, common_steps))

-- Each first clock lies behind those that it waits for.
pub first-m-d : (past : List Timed) (instr : Option Instr) → first_d past instr + 2 ≤ first_m past instr
first-m-d past instr = (let g = (greater-at-least (first_d past instr + 1) (prior past).m).0 in omega arith)

pub first-d-f : (past : List Timed) (instr : Option Instr) → first_f past + 1 ≤ first_d past instr
first-d-f past instr = (greater-at-least (first_f past + 1) (greater (prior past).e (ready_for past instr))).0

pub first-d-ready : (past : List Timed) (instr : Option Instr) → ready_for past instr ≤ first_d past instr
first-d-ready past instr =
    let a = (greater-at-least (first_f past + 1) (greater (prior past).e (ready_for past instr))).1 in
    let b = (greater-at-least (prior past).e (ready_for past instr)).1 in
    omega arith

pub first-f-i : (past : List Timed) → (prior past).f + 1 ≤ first_f past
first-f-i past = (greater-at-least ((prior past).f + 1) (prior past).d).0

-- The clocks are the first ones.
module _ (past : List Timed) (instr : Option Instr) where
  -- The first E.
  abbrev first_e : ℕ
  first_e = due_e (prior past) (first_d past instr)

  taken-first : (i : ℕ) → Takes (Some 0) past instr i → i ≡ (prior past).f + 1
  taken-first i h = (let a = h.later in let b = h.soon in omega arith)

  pub begins-first : (i f : ℕ) → Begins (Some 0) past instr i f → f ≡ first_f past
  begins-first i f h = h.leaves ∙ ap (λ x. due_f (prior past) x) (taken-first i h.taken)

  pub decodes-first : (i f d : ℕ) → Decodes (Some 0) past instr i f d → d ≡ first_d past instr
  decodes-first i f d h = h.decoded ∙ ap (λ x. due_d (prior past) (ready_for past instr) x) (begins-first i f h.begins)

  e-first : (i f d e : ℕ) → Executes (Some 0) past instr i f d e → e ≡ first_e
  e-first i f d e h = h.executed ∙ ap (λ x. due_e (prior past) x) (decodes-first i f d h.decodes)

  pub executes-first : (i f d e : ℕ) → Executes (Some 0) past instr i f d e → e + 1 ≡ first_m past instr
  executes-first i f d e h = ap (λ x. x + 1) (e-first i f d e h)

-- An answer that comes at once, and M then.
answer-is : (kind : Option Kind) (e : ℕ) (a : Option ℕ) → IsAnswered (Some 0) kind e a → a ≡ answer_at kind e
answer-is None e a h = h
answer-is (Some kind) e None h = absurd h
answer-is (Some kind) e (Some a) h =
    let x = h.0 in let y = h.1 in let same : a ≡ e + 1 = omega arith in ap (λ n. Some n) same

due_m-at : (kind : Option Kind) (e : ℕ) → due_m e (answer_at kind e) ≡ e + 1
due_m-at None e = grind (arith, common_steps)
due_m-at (Some kind) e = grind (arith, common_steps)

-- So a row is the one that is due at once.
made : ℕ → ℕ → ℕ → ℕ → Option ℕ → ℕ → Option ℕ → TimeRow
made i f d e a m w = record { i = i; f = f; d = d; e = e; a = a; m = m; w = w }

same-row : (row : TimeRow) (i f d e : ℕ) (a : Option ℕ) (m : ℕ) (w : Option ℕ) → row.i ≡ i → row.f ≡ f → row.d ≡ d → row.e ≡ e
    → row.a ≡ a → row.m ≡ m → row.w ≡ w → row ≡ made i f d e a m w
unfolding made
same-row row i f d e a m w ei ef ed ee ea em ew = sym (rw (← ei, ← ef, ← ed, ← ee, ← ea, ← em, ← ew) refl)

row-first : (past : List Timed) (instr : Option Instr) (row : TimeRow) → IsRow (Some 0) past instr row → row ≡ row_at_once past instr
unfolding made
row-first past instr row h =
    let decodes = h.executes.decodes in
    let e = e-first past instr row.i row.f row.d row.e h.executes in
    let a : row.a ≡ answer_at (kind_at instr) (first_e past instr) =
    answer-is (kind_at instr) row.e row.a h.a ∙ ap (λ x. answer_at (kind_at instr) x) e in
    let m : row.m ≡ first_m past instr =
    h.m ∙ (ap (λ x. due_m x row.a) e ∙ (ap (λ x. due_m (first_e past instr) x) a ∙ due_m-at (kind_at instr) (first_e past instr))) in
    same-row row _ _ _ _ _ _ _ (taken-first past instr row.i decodes.begins.taken) (begins-first past instr _ _ decodes.begins)
    (decodes-first past instr _ _ _ decodes) e a m (h.w ∙ ap (λ x. Some (x + 1)) m)

-- And the rows follow from the instructions.
pub past-first : (past : List Timed) (instrs : List (Option Instr)) (rows : List TimeRow) → IsTable (Some 0) past instrs rows
    → past_of past instrs rows ≡ past_at_once past instrs
past-first past [] [] h = refl
past-first past [] (row ∷ rows) h = absurd h
past-first past (instr ∷ instrs) [] h = absurd h
past-first past (instr ∷ instrs) (row ∷ rows) h =
    past-first (timed instr row ∷ past) instrs rows h.1
    ∙ ap (λ r. past_at_once (timed instr r ∷ past) instrs) (row-first past instr row h.0)
