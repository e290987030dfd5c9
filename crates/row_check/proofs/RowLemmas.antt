-- The judgments of rows agree exactly where the rows are those of the timetable.
use Rattle.std.proofs.Common.{◌≡◌, ℕ, ◌+◌, ◌≤◌, Bool, true, false, nat_lt, List, [], ◌∷◌, ◌++◌, length, refl, ap, sym, ◌∙◌, arith, subst}
use Rattle.std.proofs.Common.{append_assoc}
use Rattle.std.specs.Prelude.{if◌then◌else◌, ◌==◌, Option, Some, None}
use Rattle.std.specs.List.{AllByRecursion}
use Rattle.std.proofs.lemmas.Bool.{eqb-true, eq-eqb}
use Rattle.std.proofs.lemmas.Grind.{common_steps}
use Rattle.std_laws.proofs.ListLaws.{AllByRecursion-append, AllByRecursion-parts}
use Rattle.mips_isa.specs.declared.Instr.{Instr}
use Rattle.mips_isa.specs.Steps.{kind_at}
use Rattle.access_log.specs.declared.field.Field.TheVariants as fields
use Rattle.timetable.specs.declared.rows.TimeRow.{TimeRow}
use Rattle.timetable.specs.Recurrence.{due_m}
use Rattle.timetable.specs.Tables.{Timed, timed, Executes, IsRow, IsStopRow, IsTable, past_of}
use Rattle.timetable.proofs.WithinLaws.{IsWithin}
use Rattle.row_check.specs.Judgments.{Judgment, number, allowed}
use Rattle.row_check.specs.Rows.{limit_for, limited, front_judged, back_judged, row_judged, halt_judged, stop_judged, rows_judged, KeepsLimit}
use Rattle.row_check.proofs.JudgmentLaws.{Agrees, Agree, optional_is, optional_same}
use Rattle.row_check.proofs.WithinLemmas.{taken-is, taken-agrees, answered-is, answered-agrees}
use Rattle.row_check.proofs.LimitLemmas.{AreLimited}

parts : (first others : List Judgment) → Agree (first ++ others) → Agree first × Agree others
parts first others all = AllByRecursion-parts Agrees first others all

both : (first others : List Judgment) → Agree first → Agree others → Agree (first ++ others)
both first others all more = AllByRecursion-append Agrees first others all more

-- ---- the fields up to E

front-is : (line : ℕ) (bound : Option ℕ) (past : List Timed) (instr : Option Instr) (row : TimeRow)
    → Agree (front_judged line bound past instr row) → Executes bound past instr row.i row.f row.d row.e
front-is line bound past instr row all = record {
  decodes = record {
    begins = record { taken = taken-is bound past instr row.i (eqb-true _ _ all.0); leaves = eqb-true _ _ all.1.0 };
    decoded = eqb-true _ _ all.1.1.0;
  };
  executed = eqb-true _ _ all.1.1.1.0;
}

front-agrees : (line : ℕ) (bound : Option ℕ) (past : List Timed) (instr : Option Instr) (row : TimeRow)
    → Executes bound past instr row.i row.f row.d row.e → Agree (front_judged line bound past instr row)
front-agrees line bound past instr row h =
    let begins = h.decodes.begins in (
      eq-eqb _ _ (taken-agrees bound past instr row.i begins.taken),
      (eq-eqb _ _ begins.leaves, (eq-eqb _ _ h.decodes.decoded, (eq-eqb _ _ h.executed, tt))),
    )

-- ---- M within a limit

-- what is judged of an M, by whether the due one is beyond the limit
abbrev judged : ℕ → ℕ → ℕ → Bool → Judgment
judged line kept due late = if late then allowed line fields.M kept false else number line fields.M kept due

in-time : (line limit kept due : ℕ) (late : Bool) → nat_lt limit due ≡ late → Agrees (judged line kept due late)
    → (kept ≡ due) × (due ≤ limit)
in-time line limit kept due true is same = cc
in-time line limit kept due false is same = (eqb-true _ _ same, grind (arith, common_steps))

limited-is : (line : ℕ) (limit : Option ℕ) (kept due : ℕ) → Agrees (limited line limit kept due) → (kept ≡ due) × IsWithin limit kept
limited-is line None kept due same = (eqb-true _ _ same, tt)
limited-is line (Some limit) kept due same =
    let h = in-time line limit kept due (nat_lt limit due) refl same in
    (h.0, omega (arith, h.0, h.1))

agrees-in-time : (line limit kept due : ℕ) (late : Bool) → nat_lt limit due ≡ late → kept ≡ due → due ≤ limit
    → Agrees (judged line kept due late)
agrees-in-time line limit kept due true is same within = (let no : nat_lt limit due ≡ false = grind (arith, common_steps) in cc)
agrees-in-time line limit kept due false is same within = eq-eqb _ _ same

limited-agrees : (line : ℕ) (limit : Option ℕ) (kept due : ℕ) → kept ≡ due → IsWithin limit kept → Agrees (limited line limit kept due)
limited-agrees line None kept due same within = eq-eqb _ _ same
limited-agrees line (Some limit) kept due same within =
    agrees-in-time line limit kept due (nat_lt limit due) refl same (omega (arith, same, within))

-- ---- one row

pub row-is : (line : ℕ) (bound limit : Option ℕ) (past : List Timed) (instr : Option Instr) (row : TimeRow)
    → Agree (row_judged line bound limit past instr row) → IsRow bound past instr row × IsWithin limit row.m
row-is line bound limit past instr row all =
    let h = parts (front_judged line bound past instr row) (back_judged line bound limit instr row) all in
    let m = limited-is line limit row.m (due_m row.e row.a) h.1.1.0 in (
      record {
        executes = front-is line bound past instr row h.0;
        a = answered-is bound (kind_at instr) row.e row.a (optional_is _ _ h.1.0);
        m = m.0;
        w = optional_is _ _ h.1.1.1.0;
      },
      m.1,
    )

row-agrees : (line : ℕ) (bound limit : Option ℕ) (past : List Timed) (instr : Option Instr) (row : TimeRow)
    → IsRow bound past instr row → IsWithin limit row.m → Agree (row_judged line bound limit past instr row)
row-agrees line bound limit past instr row h within =
    both (front_judged line bound past instr row) (back_judged line bound limit instr row)
    (front-agrees line bound past instr row h.executes) (
      optional_same _ _ (answered-agrees bound (kind_at instr) row.e row.a h.a),
      (limited-agrees line limit row.m (due_m row.e row.a) h.m within, (optional_same _ _ h.w, tt)),
    )

no-answer : (e : ℕ) (a : Option ℕ) → a ≡ None → due_m e a ≡ e + 1
no-answer e None is = grind (arith, common_steps)
no-answer e (Some a) is = cc

halt-is : (line : ℕ) (bound : Option ℕ) (past : List Timed) (instr : Option Instr) (row : TimeRow)
    → Agree (stop_judged line bound past instr row) → IsStopRow bound past instr row
halt-is line bound past instr row all =
    let h = parts (front_judged line bound past instr row) (halt_judged line row) all in
    let a = optional_is _ _ h.1.0 in
    record {
      executes = front-is line bound past instr row h.0;
      a = a;
      m = eqb-true _ _ h.1.1.0 ∙ no-answer row.e row.a a;
      w = optional_is _ _ h.1.1.1.0;
    }

halt-agrees : (line : ℕ) (bound : Option ℕ) (past : List Timed) (instr : Option Instr) (row : TimeRow)
    → IsStopRow bound past instr row → Agree (stop_judged line bound past instr row)
halt-agrees line bound past instr row h =
    both (front_judged line bound past instr row) (halt_judged line row) (front-agrees line bound past instr row h.executes)
    (optional_same _ _ h.a, (eq-eqb _ _ (h.m ∙ sym (no-answer row.e row.a h.a)), (optional_same _ _ h.w, tt)))

-- ---- the rows of a core that didn't stop

pub spent-is : (line : ℕ) (bound limit : Option ℕ) (past : List Timed) (instrs : List (Option Instr)) (stop : Option Instr)
    (rows : List TimeRow) → length rows ≡ length instrs → Agree (rows_judged line bound limit past instrs stop rows)
    → IsTable bound past instrs rows × AreLimited bound limit rows
spent-is line bound limit past [] stop [] count all = (tt, tt)
spent-is line bound limit past [] stop (row ∷ rows) count all = absurd (omega (arith, count))
spent-is line bound limit past (instr ∷ instrs) stop [] count all = absurd (omega (arith, count))
spent-is line bound limit past (instr ∷ instrs) stop (row ∷ rows) count all =
    let own = limit_for bound limit (length rows == 0) row in
    let h = parts (row_judged line bound own past instr row) _ all in
    let first = row-is line bound own past instr row h.0 in
    let more = spent-is (line + 1) bound limit (timed instr row ∷ past) instrs stop rows (omega (arith, count)) h.1 in
    ((first.0, more.0), (first.1, more.1))

pub spent-agrees : (line : ℕ) (bound limit : Option ℕ) (past : List Timed) (instrs : List (Option Instr)) (stop : Option Instr)
    (rows : List TimeRow) → IsTable bound past instrs rows → AreLimited bound limit rows
    → (length rows ≡ length instrs) × Agree (rows_judged line bound limit past instrs stop rows)
spent-agrees line bound limit past [] stop [] h within = (refl, tt)
spent-agrees line bound limit past [] stop (row ∷ rows) h within = absurd h
spent-agrees line bound limit past (instr ∷ instrs) stop [] h within = absurd h
spent-agrees line bound limit past (instr ∷ instrs) stop (row ∷ rows) h within =
    let own = limit_for bound limit (length rows == 0) row in
    let more = spent-agrees (line + 1) bound limit (timed instr row ∷ past) instrs stop rows h.1 within.1 in (
      omega (arith, more.0),
      both (row_judged line bound own past instr row) _
          (row-agrees line bound own past instr row h.0 within.0) more.1,
    )

-- ---- and of one that stopped: the last is that of its stop

module _ (bound : Option ℕ) where
  pub record IsStopTable (past : List Timed) (instrs : List (Option Instr)) (stop : Option Instr) (rows : List TimeRow) : Type 0 where
    pub earlier : List TimeRow
    pub row : TimeRow
    pub are : rows ≡ earlier ++ row ∷ []
    pub table : IsTable bound past instrs earlier
    pub last : IsStopRow bound (past_of past instrs earlier) stop row

  pub stopped-is : (line : ℕ) (past : List Timed) (instrs : List (Option Instr)) (stop : Option Instr) (rows : List TimeRow)
      → length rows ≡ length instrs + 1 → Agree (rows_judged line bound None past instrs stop rows)
      → IsStopTable past instrs stop rows
  stopped-is line past [] stop [] count all = absurd (omega (arith, count))
  stopped-is line past [] stop (row ∷ []) count all =
      record { earlier = []; row = row; are = refl; table = tt; last = halt-is line bound past stop row all }
  stopped-is line past [] stop (row ∷ next ∷ rows) count all = absurd (omega (arith, count))
  stopped-is line past (instr ∷ instrs) stop [] count all = absurd (omega (arith, count))
  stopped-is line past (instr ∷ instrs) stop (row ∷ rows) count all =
      let h = parts (row_judged line bound None past instr row) _ all in
      let first = row-is line bound None past instr row h.0 in
      let more = stopped-is (line + 1) (timed instr row ∷ past) instrs stop rows (omega (arith, count)) h.1 in
      record {
        earlier = row ∷ more.earlier;
        row = more.row;
        are = ap (λ (l : List TimeRow). row ∷ l) more.are;
        table = (first.0, more.table);
        last = more.last;
      }

  -- as many rows as instructions and one, and all agree
  abbrev pub StopsAgree : ℕ → List Timed → List (Option Instr) → Option Instr → List TimeRow → Type 0
  StopsAgree line past instrs stop rows =
      (length rows ≡ length instrs + 1) × Agree (rows_judged line bound None past instrs stop rows)

  agrees-to-stop : (line : ℕ) (past : List Timed) (instrs : List (Option Instr)) (stop : Option Instr) (earlier : List TimeRow)
      (row : TimeRow) → IsTable bound past instrs earlier → IsStopRow bound (past_of past instrs earlier) stop row
      → StopsAgree line past instrs stop (earlier ++ row ∷ [])
  agrees-to-stop line past [] stop [] row h last = (refl, halt-agrees line bound past stop row last)
  agrees-to-stop line past [] stop (first ∷ earlier) row h last = absurd h
  agrees-to-stop line past (instr ∷ instrs) stop [] row h last = absurd h
  agrees-to-stop line past (instr ∷ instrs) stop (first ∷ earlier) row h last =
      let more = agrees-to-stop (line + 1) (timed instr first ∷ past) instrs stop earlier row h.1 last in (
        omega (arith, more.0),
        both (row_judged line bound None past instr first) _
            (row-agrees line bound None past instr first h.0 tt) more.1,
      )

  pub stopped-agrees : (line : ℕ) (past : List Timed) (instrs : List (Option Instr)) (stop : Option Instr) (rows : List TimeRow)
      → IsStopTable past instrs stop rows → StopsAgree line past instrs stop rows
  stopped-agrees line past instrs stop rows h =
      subst (λ (l : List TimeRow). StopsAgree line past instrs stop l) (sym h.are)
      (agrees-to-stop line past instrs stop h.earlier h.row h.table h.last)

-- ---- rows behind others

-- The limit of a row that keeps it is the same wherever it stands.
keeps-anywhere : (bound limit : Option ℕ) (row : TimeRow) (is_last : Bool) → KeepsLimit bound limit row
    → limit_for bound limit is_last row ≡ limit
keeps-anywhere bound limit row true keeps = keeps
keeps-anywhere bound None row false keeps = refl
keeps-anywhere bound (Some limit) row false keeps = refl

pub lines-count : (line : ℕ) (bound limit : Option ℕ) (past : List Timed) (instrs others : List (Option Instr)) (stop : Option Instr)
    (rows later : List TimeRow) → length rows ≡ length instrs → AllByRecursion (KeepsLimit bound limit) rows
    → rows_judged line bound limit past (instrs ++ others) stop (rows ++ later)
    ≡ rows_judged line bound limit past instrs stop rows
    ++ rows_judged (line + length rows) bound limit (past_of past instrs rows) others stop later
lines-count line bound limit past [] others stop [] later count keep =
    ap (λ (n : ℕ). rows_judged n bound limit past others stop later) (let e : line ≡ line + 0 = omega arith in e)
lines-count line bound limit past [] others stop (row ∷ rows) later count keep = absurd (omega (arith, count))
lines-count line bound limit past (instr ∷ instrs) others stop [] later count keep = absurd (omega (arith, count))
lines-count line bound limit past (instr ∷ instrs) others stop (row ∷ rows) later count keep =
    let judged : Option ℕ → List Judgment = λ own. row_judged line bound own past instr row in
    let alone = keeps-anywhere bound limit row (length rows == 0) keep.0 in
    let before = keeps-anywhere bound limit row (length (rows ++ later) == 0) keep.0 in
    let more = lines-count (line + 1) bound limit (timed instr row ∷ past) instrs others stop rows later (omega (arith, count)) keep.1 in
    let behind : line + 1 + length rows ≡ line + length (row ∷ rows) = omega arith in
    rw (alone, before) (
    ap (λ (l : List Judgment). judged limit ++ l) (rw behind at more)
    ∙ sym (append_assoc (judged limit) (rows_judged (line + 1) bound limit (timed instr row ∷ past) instrs stop rows) _)
    )
