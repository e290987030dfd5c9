-- A row more of a timetable: behind it nothing differed so far, and the clocks are known.
use Rattle.std.proofs.Common.{◌≡◌, ℕ, ◌+◌, ◌*◌, ◌<◌, ◌≤◌, List, [], ◌∷◌, ◌++◌, length, get_or, drop, refl, sym, ap, ◌∙◌, subst, arith}
use Rattle.std.specs.Prelude.{Bool, ◌==◌, Option, Some, None}
use Rattle.std.specs.List.{AllByRecursion}
use Rattle.std.specs.Cmp.{both_ways}
use Rattle.std.proofs.lemmas.Bool.{eqb-true, eq-eqb}
use Rattle.std.proofs.lemmas.List.{at_drop_more, drop_all, length-drop}
use Rattle.std.proofs.lemmas.List.Elements.{All-from_recursion}
use Rattle.mips_isa.specs.declared.Instr.{Instr}
use Rattle.timetable.specs.declared.rows.TimeRow.{TimeRow}
use Rattle.timetable.specs.Tables.{Timed, timed}
use Rattle.timetable.specs.AtOnce.{row_at_once, past_at_once}
use Rattle.report_rows.specs.Bounds.{AreTimes}
use Rattle.row_check.specs.declared.clocks.Clocks.{Clocks}
use Rattle.row_check.specs.declared.difference.Difference.{Difference}
use Rattle.row_check.specs.Clocks.{AreOf, AreWithin, IsRowWithin}
use Rattle.row_check.specs.Judgments.{Judgment, first_told}
use Rattle.row_check.specs.Rows.{limit_for, row_judged, stop_judged, rows_judged}
use Rattle.row_check.proofs.JudgmentLaws.{Agree, agree}
use Rattle.row_check.proofs.EndLaws.{row-at_once}
use Rattle.replayer.specs.Timetables.{AreKnown}
use Rattle.replayer.proofs.JudgeLemmas.{first_before, first_behind}

-- Bounds that are greater hold too.
row_within_more : (bound more : ℕ) (row : TimeRow) → bound ≤ more → IsRowWithin bound row → IsRowWithin more row
row_within_more bound more row above is = record {
  i = omega (arith, is.i);
  f = omega (arith, is.f);
  d = omega (arith, is.d);
  e = omega (arith, is.e);
  m = omega (arith, is.m);
}

pub within_more : (bound more : ℕ) (clocks : Clocks) → bound ≤ more → AreWithin bound clocks → AreWithin more clocks
within_more bound more clocks above are = record {
  last = row_within_more bound more clocks.prior above are.last;
  ready = λ register d below. (let is = are.ready register d below in omega (arith, is));
}

-- What a row leaves of clocks.
abbrev pub GoesOn : Clocks → Option Instr → TimeRow → Clocks → Type 0
GoesOn clocks instr row new =
    ((past : List Timed) → AreOf clocks past → AreOf new (timed instr row ∷ past))
    × ((bound : ℕ) → AreWithin bound clocks → IsRowWithin bound row → AreWithin bound new)

-- ---- instructions whose words and answers come at once

-- The clocks are those behind the instructions so far.
pub record ClocksSoFar (clocks : Clocks) (left all : List (Option Instr)) : Type 0 where
  pub count : ℕ
  pub within : AreWithin (4 * count) clocks
  pub few : count + length left ≤ 100002
  pub past : List Timed
  pub of : AreOf clocks past
  pub same : past_at_once past left ≡ past_at_once [] all

-- A row of that instruction at once.
abbrev pub IsAtOnce : Clocks → Option Instr → TimeRow → Type 0
IsAtOnce clocks instr row =
    ((past : List Timed) → AreOf clocks past → row ≡ row_at_once past instr)
    × ((bound : ℕ) → AreWithin bound clocks → IsRowWithin (bound + 4) row)

pub row_within : (clocks : Clocks) (instr : Option Instr) (row : TimeRow) (left all : List (Option Instr)) → ClocksSoFar clocks left all
    → IsAtOnce clocks instr row → IsRowWithin 1000000 row
row_within clocks instr row left all so_far at_once =
    row_within_more (4 * so_far.count + 4) 1000000 row (omega (arith, so_far.few)) (at_once.1 (4 * so_far.count) so_far.within)

pub clocks_more : (clocks new : Clocks) (instr : Option Instr) (row : TimeRow) (left rest all : List (Option Instr))
    → ClocksSoFar clocks left all → left ≡ instr ∷ rest → IsAtOnce clocks instr row → GoesOn clocks instr row new
    → ClocksSoFar new rest all
clocks_more clocks new instr row left rest all so_far is at_once goes =
    let bound = 4 * so_far.count in
    let more : bound + 4 ≡ 4 * (so_far.count + 1) = omega arith in
    record {
      count = so_far.count + 1;
      within = rw more at (goes.1 (bound + 4) (within_more bound (bound + 4) clocks (omega arith) so_far.within)
          (at_once.1 bound so_far.within));
      few = omega (arith, so_far.few, ap length is);
      past = timed instr row ∷ so_far.past;
      of = goes.0 so_far.past so_far.of;
      same = ap (λ r. past_at_once (timed instr r ∷ so_far.past) rest) (at_once.0 so_far.past so_far.of)
          ∙ (ap (past_at_once so_far.past) (sym is) ∙ so_far.same);
    }

-- ---- rows of a report

pub times_within : (row : TimeRow) → AreTimes row → IsRowWithin 1000000 row
times_within row are = record {
  i = omega (arith, are.i);
  f = omega (arith, are.f);
  d = omega (arith, are.d);
  e = omega (arith, are.e);
  m = omega (arith, are.m);
}

pub times_at : (rows : List TimeRow) (index : ℕ) (d : TimeRow) → index < length rows → AllByRecursion AreTimes rows
    → IsRowWithin 1000000 (get_or rows index d)
times_at rows index d below times = times_within (get_or rows index d) (All-from_recursion AreTimes rows times index d below)

module _ (first_line : ℕ) (bound limit : Option ℕ) (stop : Option Instr) (all : List (Option Instr)) (rows : List TimeRow) where
  abbrev due : List Judgment
  due = rows_judged first_line bound limit [] all stop rows

  -- The rows below an index don't differ, and the clocks are those behind them: where nothing waits, those at once.
  pub record RowsSoFar (line : ℕ) (clocks : Clocks) (left : List (Option Instr)) (index : ℕ) : Type 0 where
    pub line_is : line ≡ first_line + index
    pub within : AreWithin 1000000 clocks
    pub past : List Timed
    pub of : AreOf clocks past
    pub same : first_told (rows_judged line bound limit past left stop (drop index rows)) ≡ first_told due
    pub at_once : bound ≡ Some 0 → past_at_once past left ≡ past_at_once [] all

  module _ (line : ℕ) (clocks : Clocks) (left : List (Option Instr)) (index : ℕ) (d : TimeRow) (so_far : RowsSoFar line clocks left index)
    where
      abbrev row : TimeRow
      row = get_or rows index d

      abbrev later : List TimeRow
      later = drop (index + 1) rows

      abbrev row_limit : Option ℕ
      row_limit = limit_for bound limit (length later == 0) row

      -- the row at the index is the last one where its line is the last
      pub limit_is : (end_line : ℕ) → index < length rows → end_line ≡ first_line + length rows
          → limit_for bound limit (line + 1 == end_line) row ≡ row_limit
      limit_is end_line below end_is =
          let count = length-drop (index + 1) rows in
          ap (λ (is_last : Bool). limit_for bound limit is_last row)
          (both_ways (line + 1 == end_line) (length later == 0)
          (λ e. eq-eqb (length later) 0 (omega (arith, eqb-true (line + 1) end_line e, count, end_is, so_far.line_is)))
          (λ e. eq-eqb (line + 1) end_line (omega (arith, eqb-true (length later) 0 e, count, end_is, so_far.line_is, below))))

      -- what is told of the row at the index
      abbrev Told : Option Difference → (List Timed → List Judgment) → Type 0
      Told told judged = (past : List Timed) → AreOf clocks past → told ≡ first_told (judged past)

      at : index < length rows
          → first_told (rows_judged line bound limit so_far.past left stop (row ∷ later)) ≡ first_told due
      at below =
          sym (at_drop_more (λ rows. first_told (rows_judged line bound limit so_far.past left stop rows)) rows index d below) ∙ so_far.same

      abbrev behind : (instr : Option Instr) (rest : List (Option Instr)) → List Judgment
      behind instr rest = rows_judged (line + 1) bound limit (timed instr row ∷ so_far.past) rest stop later

      -- that of an instruction, which stands before the others
      at_instr : (instr : Option Instr) (rest : List (Option Instr)) → index < length rows → left ≡ instr ∷ rest
          → first_told (row_judged line bound row_limit so_far.past instr row ++ behind instr rest) ≡ first_told due
      at_instr instr rest below is =
          sym (ap (λ left. first_told (rows_judged line bound limit so_far.past left stop (row ∷ later))) is) ∙ at below

      pub row_differs : (instr : Option Instr) (rest : List (Option Instr)) (difference : Difference) (found : Option ℕ)
          → index < length rows → left ≡ instr ∷ rest → found ≡ row_limit
          → Told (Some difference) (λ past. row_judged line bound found past instr row) → Some difference ≡ first_told due
      row_differs instr rest difference found below is limit_so told =
          sym (first_before (row_judged line bound row_limit so_far.past instr row) (behind instr rest) difference
          (sym (rw limit_so at (told so_far.past so_far.of)))) ∙ at_instr instr rest below is

      pub row_agrees : (instr : Option Instr) (rest : List (Option Instr)) (new : Clocks) (found : Option ℕ)
          → index < length rows → left ≡ instr ∷ rest → found ≡ row_limit
          → Told None (λ past. row_judged line bound found past instr row) → GoesOn clocks instr row new
          → IsRowWithin 1000000 row → RowsSoFar (line + 1) new rest (index + 1)
      row_agrees instr rest new found below is limit_so told goes few =
          let none : first_told (row_judged line bound row_limit so_far.past instr row) ≡ None =
          sym (rw limit_so at (told so_far.past so_far.of)) in
          record {
            line_is = omega (arith, so_far.line_is);
            within = goes.1 1000000 so_far.within few;
            past = timed instr row ∷ so_far.past;
            of = goes.0 so_far.past so_far.of;
            same = sym (first_behind (row_judged line bound row_limit so_far.past instr row) (behind instr rest) none)
                ∙ at_instr instr rest below is;
            at_once = λ zero. ap (λ past. past_at_once past rest)
                (row-at_once line row_limit so_far.past instr row
                (subst (λ b. Agree (row_judged line b row_limit so_far.past instr row)) zero
                (agree (row_judged line bound row_limit so_far.past instr row) none)))
                ∙ (ap (past_at_once so_far.past) (sym is) ∙ so_far.at_once zero);
          }

      -- where no instruction is left, the clocks are those behind all of them
      pub all_known : left ≡ [] → AreKnown bound (Some clocks) all
      all_known none zero =
          (subst (AreOf clocks) (ap (past_at_once so_far.past) (sym none) ∙ so_far.at_once zero) so_far.of, so_far.within)

      pub stop_told : (told : Option Difference) → index < length rows → left ≡ []
          → Told told (λ past. stop_judged line bound past stop row) → told ≡ first_told due
      stop_told told below none is =
          is so_far.past so_far.of
          ∙ (sym (ap (λ left. first_told (rows_judged line bound limit so_far.past left stop (row ∷ later))) none)
          ∙ at below)

      no_rows : (left : List (Option Instr)) → rows_judged line bound limit so_far.past left stop [] ≡ []
      no_rows [] = refl
      no_rows (instr ∷ rest) = refl

      pub none_told : length rows ≤ index → None ≡ first_told due
      none_told end =
          sym (ap first_told (no_rows left))
          ∙ (sym (ap (λ rows. first_told (rows_judged line bound limit so_far.past left stop rows)) (drop_all index rows end))
          ∙ so_far.same)
