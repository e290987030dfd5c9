-- What is read of the rows of timetables is what they spell.
use Rattle.std.proofs.Common.{◌≡◌, ℕ, suc, ◌+◌, ◌-◌, ◌^◌, ◌<◌, ◌≤◌, Bool, true, false, cond, List, [], ◌∷◌, ◌++◌, length, map, decimal}
use Rattle.std.proofs.Common.{Option, refl}
use Rattle.std.proofs.Common.{sym, ap, subst, ◌∙◌, arith}
use Rattle.std.specs.Prelude.{codes, nat_lt, Some, None, IfSome}
use Rattle.std.specs.List.{AllByRecursion}
use Rattle.std.specs.Str.{bytes_eq}
use Rattle.std.proofs.lemmas.Bool.{false_from_ne_true, ltb-true, lt-ltb}
use Rattle.std.proofs.lemmas.Option.{cond_some}
use Rattle.std.proofs.lemmas.Slice.Eq.{bytes_eq-Decides}
use Rattle.timetable.specs.declared.rows.TimeRow.{TimeRow}
use Rattle.row_reader.specs.Rows.{Row, Rows}
use Rattle.row_reader.specs.Starts.{AreFit}
use Rattle.row_reader.specs.Fields.{◌>>=◌, with_rest, field_at}
use Rattle.row_reader.specs.Numbers.{exactly, number_of}
use Rattle.row_reader.proofs.PartLaws.{IsRow}
use Rattle.row_reader.proofs.FieldLaws.{IsField, bind_some, some_is, field_some, then_field, last_field, row_as}
use Rattle.row_reader.proofs.NumberLaws.{number_field, optional_number_field, exactly_field}
use Rattle.row_reader.proofs.ManyLaws.{AreRows}
use Rattle.report_rows.specs.Bounds.{IsTime, AreTimes}
use Rattle.report_rows.specs.Rows.{stage_parts, timed_row, rows_of_each, timetable_rows}
use Rattle.report_row_reader.specs.Reading.{NumberedRow, numbered, after_row, is_timed, last_stages_of, stages_of, numbered_row_of}
use Rattle.report_row_reader.specs.Reading.{timed_row_of}
use Rattle.report_row_reader.proofs.RowLaws.{then_name}

-- ---- the stages of an instruction

make_row : ℕ → ℕ → ℕ → ℕ → Option ℕ → ℕ → Option ℕ → TimeRow
make_row i f d e a m w = record { i = i; f = f; d = d; e = e; a = a; m = m; w = w }

make_row_is : (z : TimeRow) → make_row z.i z.f z.d z.e z.a z.m z.w ≡ z
unfolding make_row
make_row_is z = refl

row_is : (z : TimeRow) (i f d e : ℕ) (a : Option ℕ) (m : ℕ) (w : Option ℕ)
    → z.i ≡ i → z.f ≡ f → z.d ≡ d → z.e ≡ e → z.a ≡ a → z.m ≡ m → z.w ≡ w → make_row i f d e a m w ≡ z
row_is z i f d e a m w hi hf hd he ha hm hw = let all = make_row_is z in cc

time_field : IsField IsTime decimal (number_of 100002)
time_field = number_field 100002 (omega arith)

abbrev StageFields : TimeRow → Type 0
StageFields z =
    Unit {0}
    × (IsTime z.i × (IsTime z.f × (IsTime z.d × (IsTime z.e × (IfSome z.a IsTime × (IsTime z.m × (IfSome z.w IsTime × Unit {0})))))))

stage_fields : IsRow StageFields stage_parts stages_of
unfolding stages_of last_stages_of make_row
stage_fields =
    then_field _ _ _ (λ z. z.i) (λ z. Unit {0}) _ _ _ time_field (λ i _.
    then_field _ _ _ (λ z. z.f) _ _ _ _ time_field (λ f _.
    then_field _ _ _ (λ z. z.d) _ _ _ _ time_field (λ d _.
    then_field _ _ _ (λ z. z.e) _ _ _ _ time_field (λ e _.
    then_field _ _ _ (λ z. z.a) _ _ _ _ (optional_number_field 100002 (omega arith)) (λ a _.
    then_field _ _ _ (λ z. z.m) _ _ _ _ time_field (λ m _.
    then_field _ _ _ (λ z. z.w) _ _ _ _ (optional_number_field 100002 (omega arith)) (λ w _.
    last_field (record { i = i; f = f; d = d; e = e; a = a; m = m; w = w }) _
    (λ z k. row_is z i f d e a m w k.1.1.1.1.1.1.0 k.1.1.1.1.1.0 k.1.1.1.1.0 k.1.1.1.0 k.1.1.0 k.1.0 k.0)
    (refl, (refl, (refl, (refl, (refl, (refl, (refl, tt))))))))))))))

stages_law : IsRow AreTimes stage_parts stages_of
stages_law =
    row_as StageFields AreTimes stage_parts stage_parts stages_of
    (λ z h. record {
      i = h.1.0;
      f = h.1.1.0;
      d = h.1.1.1.0;
      e = h.1.1.1.1.0;
      a = h.1.1.1.1.1.0;
      m = h.1.1.1.1.1.1.0;
      w = h.1.1.1.1.1.1.1.0;
    })
    (λ z t. (tt, (t.i, (t.f, (t.d, (t.e, (t.a, (t.m, (t.w, tt)))))))))
    (λ z. refl) stage_fields

-- ---- a row by its instruction

-- a row of instruction n, in a timetable of so many rows at most
pub record FitsAt (most n : ℕ) (it : NumberedRow) : Type 0 where
  pub n_is : it.n ≡ n
  pub below : n < most
  pub times : AreTimes it.row

make_numbered : ℕ → TimeRow → NumberedRow
make_numbered n row = record { n = n; row = row }

make_numbered_is : (it : NumberedRow) → make_numbered it.n it.row ≡ it
unfolding make_numbered
make_numbered_is it = refl

numbered_is : (it : NumberedRow) (n : ℕ) (row : TimeRow) → it.n ≡ n → it.row ≡ row → make_numbered n row ≡ it
numbered_is it n row a b = let all = make_numbered_is it in cc

-- what stands behind the name and the core
abbrev numbered_parts : NumberedRow → Row
numbered_parts it = decimal it.n ∷ stage_parts it.row

-- what follows the number
abbrev kept_row : ℕ → ℕ → Row → Option NumberedRow
kept_row most n row = stages_of row >>= λ stages. cond (nat_lt n most) (Some (record { n = n; row = stages })) None

stages_behind : (most n : ℕ) → IsRow (FitsAt most n) (λ it. stage_parts it.row) (kept_row most n)
unfolding make_numbered
stages_behind most n = record {
  found = λ row it e.
      let stages = bind_some (stages_of row) (λ stages. cond (nat_lt n most) (Some (make_numbered n stages)) None) it e in
      let kept = cond_some (nat_lt n most) (make_numbered n stages.0) it stages.2 in
      let times = stages_law.found row stages.0 stages.1 in
      let same : stages.0 ≡ it.row = ap (λ (z : NumberedRow). z.row) kept.1 in (
        record { n_is = ap (λ (z : NumberedRow). z.n) (sym kept.1); below = ltb-true n most kept.0; times = subst AreTimes same times.0 },
        times.1 ∙ ap stage_parts same,
      );
  again = λ it fits.
      ap (λ o. o >>= λ stages. cond (nat_lt n most) (Some (make_numbered n stages)) None) (stages_law.again it.row fits.times)
      ∙ ap (λ b. cond b (Some (make_numbered n it.row)) None) (lt-ltb n most fits.below)
      ∙ ap (λ z. Some z) (numbered_is it n it.row fits.n_is refl);
}

numbered_law : (most n : ℕ) → IsRow (FitsAt most n) numbered_parts (numbered_row_of most n)
unfolding numbered_row_of
numbered_law most n =
    let law = then_name (FitsAt most n) (λ it. stage_parts it.row) (kept_row most n) (decimal n) (stages_behind most n) in record {
      found = λ row it e.
          let f = law.found row it e in
          (f.0, f.1 ∙ ap (λ k. decimal k ∷ stage_parts it.row) (sym f.0.n_is));
      again = λ it fits. ap (λ k. numbered_row_of most n (decimal k ∷ stage_parts it.row)) fits.n_is ∙ law.again it fits;
    }

timed_law : (most core n : ℕ) → IsRow (FitsAt most n) (λ it. timed_row core it.n it.row) (timed_row_of most core n)
unfolding timed_row_of
timed_law most core n =
    then_name _ _ _ (codes "T") (then_name _ _ (numbered_row_of most n) (decimal core) (numbered_law most n))

-- the name and the core are read over
pub timed_behind : (most core n : ℕ) (parts : Row)
    → timed_row_of most core n (codes "T" ∷ decimal core ∷ parts) ≡ numbered_row_of most n parts
unfolding timed_row_of
timed_behind most core n parts =
    ap (λ o. with_rest o (decimal core ∷ parts)
    >>= λ title. field_at (exactly (decimal core)) title.1 >>= λ key. numbered_row_of most n key.1)
    ((exactly_field (codes "T")).again tt tt)
    ∙ ap (λ o. with_rest o parts >>= λ key. numbered_row_of most n key.1) ((exactly_field (decimal core)).again tt tt)

-- ---- the rows of cores

pub is_timed_row : (core : ℕ) (parts : Row) → is_timed core (codes "T" ∷ decimal core ∷ parts) ≡ true
is_timed_row core parts = (bytes_eq-Decides (decimal core) (decimal core)).1 refl

-- the rows of the timetable of a core
pub timed_rows : (most core : ℕ) → AreRows (FitsAt most) (λ it. timed_row core it.n it.row) (is_timed core) (timed_row_of most core)
timed_rows most core = record {
  found = λ n row it e. (timed_law most core n).found row it e;
  again = λ n it fits. (timed_law most core n).again it fits;
  pass = λ n it fits. is_timed_row core (decimal it.n ∷ stage_parts it.row);
}

same_number : (a b : ℕ) → a < 2 ^ 64 → b < 2 ^ 64 → decimal a ≡ decimal b → a ≡ b
same_number a b a_small b_small e =
    let field = number_field (2 ^ 64 - 1) (omega arith) in
    some_is a b (sym (field.again a (omega arith)) ∙ ap (number_of (2 ^ 64 - 1)) e ∙ field.again b (omega arith))

-- those of another core aren't
pub timed_apart : (a b : ℕ) (it : NumberedRow) → a < b → b < 2 ^ 64 → is_timed a (timed_row b it.n it.row) ≡ false
timed_apart a b it below small = false_from_ne_true _ (λ e.
    let same = same_number b a small (omega arith) ((bytes_eq-Decides (decimal b) (decimal a)).0 e) in
    absurd (omega arith))

not_same : (parts : Row) (same : Bool) → with_rest {X = Unit {0}} (cond same (Some tt) None) parts ≡ None → same ≡ false
not_same parts true none = absurd cc
not_same parts false none = refl

-- nor is a row of timetables that has another core
pub other_key : (core : ℕ) (parts : Row) → field_at (exactly (decimal core)) parts ≡ None → is_timed core (codes "T" ∷ parts) ≡ false
unfolding exactly
other_key core [] none = refl
other_key core (key ∷ parts) none = not_same parts (bytes_eq key (decimal core)) none

-- what stands behind the core
pub behind_key : (core : ℕ) (parts left : Row) (key : Unit {0}) → field_at (exactly (decimal core)) parts ≡ Some (key, left)
    → parts ≡ decimal core ∷ left
behind_key core parts left key found = (field_some _ _ _ (exactly_field (decimal core)) parts left key found).1

-- ---- a timetable, row by row

-- rows from instruction n on, in a timetable of so many rows at most
abbrev AreFrom : ℕ → ℕ → List NumberedRow → Type 0
AreFrom most n its = AreFit (FitsAt most) after_row n its

-- a timetable of so many rows at most
abbrev pub TimetableFits : ℕ → List NumberedRow → Type 0
TimetableFits most its = AreFrom most 0 its

-- the rows alone
abbrev pub rows_in : List NumberedRow → List TimeRow
rows_in its = map (λ (it : NumberedRow). it.row) its

pub rows_in-numbered : (n : ℕ) (rows : List TimeRow) → rows_in (numbered n rows) ≡ rows
rows_in-numbered n [] = refl
rows_in-numbered n (row ∷ rows) = ap (λ others. row ∷ others) (rows_in-numbered (n + 1) rows)

pub numbered-rows_in : (most n : ℕ) (its : List NumberedRow) → AreFrom most n its → numbered n (rows_in its) ≡ its
unfolding make_numbered
numbered-rows_in most n [] fits = refl
numbered-rows_in most n (it ∷ its) fits =
    ap (λ z. z ∷ numbered (n + 1) (rows_in its)) (numbered_is it n it.row fits.0.n_is refl)
    ∙ ap (λ k. it ∷ numbered (k + 1) (rows_in its)) (sym fits.0.n_is)
    ∙ ap (λ others. it ∷ others) (numbered-rows_in most (it.n + 1) its fits.1)

few_from : (most n : ℕ) (rows : List TimeRow) → n ≤ most → AreFrom most n (numbered n rows) → n + length rows ≤ most
few_from most n [] within fits = omega arith
few_from most n (row ∷ rows) within fits = let more = few_from most (n + 1) rows (omega (arith, fits.0.below)) fits.1 in omega (arith, more)

times_from : (most n : ℕ) (rows : List TimeRow) → AreFrom most n (numbered n rows) → AllByRecursion AreTimes rows
times_from most n [] fits = tt
times_from most n (row ∷ rows) fits = (fits.0.times, times_from most (n + 1) rows fits.1)

from_times : (most n : ℕ) (rows : List TimeRow) → n + length rows ≤ most → AllByRecursion AreTimes rows → AreFrom most n (numbered n rows)
from_times most n [] few times = tt
from_times most n (row ∷ rows) few times =
    (record { n_is = refl; below = omega arith; times = times.0 }, from_times most (n + 1) rows (omega arith) times.1)

-- that is what fits: no more rows, and each with its cycles within bounds
pub timetable_to : (most : ℕ) (rows : List TimeRow) → TimetableFits most (numbered 0 rows)
    → (length rows ≤ most) × AllByRecursion AreTimes rows
timetable_to most rows fits = (omega (arith, few_from most 0 rows (omega arith) fits), times_from most 0 rows fits)

pub timetable_from : (most : ℕ) (rows : List TimeRow) → length rows ≤ most → AllByRecursion AreTimes rows
    → TimetableFits most (numbered 0 rows)
timetable_from most rows few times = from_times most 0 rows (omega arith) times

spelled_from : (core n : ℕ) (rows : List TimeRow) → map (λ (it : NumberedRow). timed_row core it.n it.row) (numbered n rows)
    ≡ rows_of_each (λ n row. timed_row core n row ∷ []) n rows
spelled_from core n [] = refl
spelled_from core n (row ∷ rows) = ap (λ (more : Rows). timed_row core n row ∷ more) (spelled_from core (n + 1) rows)

-- rows by their numbers are spelled as the timetable
pub timetable_spelled : (core : ℕ) (rows : List TimeRow) → map (λ (it : NumberedRow). timed_row core it.n it.row) (numbered 0 rows)
    ≡ timetable_rows core rows
timetable_spelled core rows = spelled_from core 0 rows

-- one more row
pub numbered_more : (n : ℕ) (rows : List TimeRow) (row : TimeRow) → numbered n (rows ++ row ∷ [])
    ≡ numbered n rows ++ record { n = n + length rows; row = row } ∷ []
numbered_more n [] row = ap (λ k. record { n = k; row = row } ∷ []) (let same : n ≡ n + 0 = omega arith in same)
numbered_more n (first ∷ rows) row =
    let next : n + 1 + length rows ≡ n + suc (length rows) = omega arith in
    ap (λ more. record { n = n; row = first } ∷ more)
    (numbered_more (n + 1) rows row ∙ ap (λ k. numbered (n + 1) rows ++ record { n = k; row = row } ∷ []) next)
