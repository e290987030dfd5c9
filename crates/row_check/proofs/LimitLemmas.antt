-- The M of each row is within its limit exactly where the last row is done by the end of a budget.
use Rattle.std.proofs.Common.{◌≡◌, ℕ, zero, suc, ◌+◌, ◌<◌, ◌≤◌, Bool, true, false, List, [], ◌∷◌, length, refl, ap, sym, ◌∙◌, arith}
use Rattle.std.proofs.Common.{inl, inr, subst}
use Rattle.std.specs.Prelude.{Option, Some, None, ◌==◌, ◌&&◌, if◌then◌else◌}
use Rattle.std.proofs.lemmas.Grind.{common_steps}
use Rattle.mips_isa.specs.declared.Instr.{Instr}
use Rattle.timetable.specs.declared.rows.TimeRow.{TimeRow}
use Rattle.timetable.specs.Recurrence.{due_e, due_m}
use Rattle.timetable.specs.Tables.{Timed, timed, prior, IsRow, IsTable, past_of}
use Rattle.timetable.specs.Ends.{IsDoneByEnd, IsLastBy}
use Rattle.timetable.proofs.WithinLaws.{IsWithin}
use Rattle.row_check.specs.Judgments.{is_same_optional}
use Rattle.row_check.specs.Rows.{limit_for}
use Rattle.row_check.proofs.JudgmentLaws.{optional_is, optional_same}

-- The M of each row is within the limit of that row.
abbrev pub AreLimited : Option ℕ → Option ℕ → List TimeRow → Type 0
AreLimited bound limit [] = Unit {0}
AreLimited bound limit (row ∷ rows) =
    IsWithin (limit_for bound limit (length rows == 0) row) row.m × AreLimited bound limit rows

-- No instruction leaves M in the clock of the one that it follows.
m-later : (bound : Option ℕ) (past : List Timed) (instr : Option Instr) (row : TimeRow) → IsRow bound past instr row
    → (prior past).m < row.m
m-later bound past instr row h =
    let e : (prior past).m ≤ due_e (prior past) row.d = grind (arith, common_steps) in
    let m : row.e + 1 ≤ due_m row.e row.a = grind (arith, common_steps) in
    omega (arith, e, m, h.m, h.executes.executed)

-- nor in one before its answer
m-answered : (e a : ℕ) → a ≤ due_m e (Some a)
m-answered e a = grind (arith, common_steps)

-- The limit of the last row, by whether its access may be open at the end, and was found answered then.
abbrev last_limit : ℕ → Bool → Bool → Option ℕ
last_limit budget may found = if may && found then Some (budget + 1) else Some budget

within-found : (budget : ℕ) (row : TimeRow) (may found : Bool) → is_same_optional row.a (Some (budget + 1)) ≡ found
    → row.m ≡ due_m row.e row.a → IsWithin (last_limit budget may found) row.m → IsDoneByEnd budget row
within-found budget row false found is m within = inl within
within-found budget row true false is m within = inl within
within-found budget row true true is m within =
    let a : row.a ≡ Some (budget + 1) = optional_is row.a (Some (budget + 1)) is in
    let late = m-answered row.e (budget + 1) in
    let at : row.m ≡ due_m row.e (Some (budget + 1)) = m ∙ ap (λ o. due_m row.e o) a in
    inr (record { a = a; m = omega (arith, late, at, within) })

last-within : (bound : Option ℕ) (budget : ℕ) (row : TimeRow) → row.m ≡ due_m row.e row.a
    → IsWithin (limit_for bound (Some budget) true row) row.m → IsLastBy bound budget row
last-within None budget row m within = within-found budget row true (is_same_optional row.a (Some (budget + 1))) refl m within
last-within (Some zero) budget row m within = within
last-within (Some (suc n)) budget row m within =
    within-found budget row true (is_same_optional row.a (Some (budget + 1))) refl m within

found-within : (budget : ℕ) (row : TimeRow) (found : Bool) → is_same_optional row.a (Some (budget + 1)) ≡ found
    → IsDoneByEnd budget row → IsWithin (last_limit budget true found) row.m
found-within budget row true is (inl within) = omega (arith, within)
found-within budget row true is (inr at) = (let m = at.m in omega (arith, m))
found-within budget row false is (inl within) = within
found-within budget row false is (inr at) =
    (let same = optional_same row.a (Some (budget + 1)) at.a in cc)

within-last : (bound : Option ℕ) (budget : ℕ) (row : TimeRow) → IsLastBy bound budget row
    → IsWithin (limit_for bound (Some budget) true row) row.m
within-last None budget row last = found-within budget row (is_same_optional row.a (Some (budget + 1))) refl last
within-last (Some zero) budget row last = last
within-last (Some (suc n)) budget row last = found-within budget row (is_same_optional row.a (Some (budget + 1))) refl last

-- A row that is within the budget is done by its end, and one that is done by the end is a clock beyond it at most.
done-early : (bound : Option ℕ) (budget : ℕ) (row : TimeRow) → row.m ≤ budget → IsLastBy bound budget row
done-early None budget row within = inl within
done-early (Some zero) budget row within = within
done-early (Some (suc n)) budget row within = inl within

done-at-most : (budget : ℕ) (row : TimeRow) → IsDoneByEnd budget row → row.m ≤ budget + 1
done-at-most budget row (inl within) = omega (arith, within)
done-at-most budget row (inr at) = (let m = at.m in omega (arith, m))

last-at-most : (bound : Option ℕ) (budget : ℕ) (row : TimeRow) → IsLastBy bound budget row → row.m ≤ budget + 1
last-at-most None budget row last = done-at-most budget row last
last-at-most (Some zero) budget row last = omega (arith, last)
last-at-most (Some (suc n)) budget row last = done-at-most budget row last

module _ (bound : Option ℕ) (budget : ℕ) where
  -- the row is within the limit that it has where it is the last, and where it isn't
  abbrev IsWithinIts : TimeRow → Bool → Type 0
  IsWithinIts row is_last = IsWithin (limit_for bound (Some budget) is_last row) row.m

  -- a row behind it
  some-behind : (next : TimeRow) (rows : List TimeRow) → (length (next ∷ rows) == 0) ≡ false
  some-behind next rows = grind (arith, common_steps)

  pub limited-last : (past : List Timed) (instrs : List (Option Instr)) (rows : List TimeRow) → IsTable bound past instrs rows
      → (prior past).m ≤ budget → AreLimited bound (Some budget) rows → IsLastBy bound budget (prior (past_of past instrs rows))
  limited-last past [] [] h before limited = done-early bound budget (prior past) before
  limited-last past [] (row ∷ rows) h before limited = absurd h
  limited-last past (instr ∷ instrs) [] h before limited = absurd h
  limited-last past (instr ∷ []) (row ∷ []) h before limited = last-within bound budget row h.0.m limited.0
  limited-last past (instr ∷ next ∷ instrs) (row ∷ []) h before limited = absurd h.1
  limited-last past (instr ∷ instrs) (row ∷ next ∷ rows) h before limited =
      let here : row.m ≤ budget = subst (IsWithinIts row) (some-behind next rows) limited.0 in
      limited-last (timed instr row ∷ past) instrs (next ∷ rows) h.1 here limited.1

  -- what is known of the row before others, where the last of all is done by the end
  abbrev IsBefore : List TimeRow → TimeRow → Type 0
  IsBefore [] row = IsLastBy bound budget row
  IsBefore (next ∷ rows) row = row.m ≤ budget

  before-within : (row : TimeRow) (rows : List TimeRow) → IsBefore rows row → IsWithinIts row (length rows == 0)
  before-within row [] before = within-last bound budget row before
  before-within row (next ∷ rows) before = subst (IsWithinIts row) (sym (some-behind next rows)) before

  before-at-most : (row : TimeRow) (rows : List TimeRow) → IsBefore rows row → row.m ≤ budget + 1
  before-at-most row [] before = last-at-most bound budget row before
  before-at-most row (next ∷ rows) before = omega (arith, before)

  all-limited : (past : List Timed) (instrs : List (Option Instr)) (rows : List TimeRow) → IsTable bound past instrs rows
      → IsLastBy bound budget (prior (past_of past instrs rows)) → AreLimited bound (Some budget) rows × IsBefore rows (prior past)
  all-limited past [] [] h last = (tt, last)
  all-limited past [] (row ∷ rows) h last = absurd h
  all-limited past (instr ∷ instrs) [] h last = absurd h
  all-limited past (instr ∷ instrs) (row ∷ rows) h last =
      let more = all-limited (timed instr row ∷ past) instrs rows h.1 last in
      let later = m-later bound past instr row h.0 in
      let most = before-at-most row rows more.1 in
      ((before-within row rows more.1, more.0), omega (arith, later, most))

  pub last-limited : (instrs : List (Option Instr)) (rows : List TimeRow) → IsTable bound [] instrs rows
      → IsLastBy bound budget (prior (past_of [] instrs rows)) → AreLimited bound (Some budget) rows
  last-limited instrs rows h last = (all-limited [] instrs rows h last).0
