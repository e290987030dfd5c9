-- A part of one row, and a part with what follows it.
use Rattle.std.proofs.Common.{◌≡◌, [], ◌∷◌, ◌++◌, Option, Some, None, Result, Ok, Err, refl, sym, ap, subst, ◌∙◌, append_assoc, inl, inr}
use Rattle.std.proofs.lemmas.List.{append-nil}
use Rattle.std.proofs.lemmas.Option.{none-some}
use Rattle.row_reader.specs.Rows.{Row, Rows}
use Rattle.kmp_base.specs.Bind.{◌>>=◌}
use Rattle.kmp_base.proofs.ReadingLaws.{bind_ok, bind_err}
use Rattle.row_reader.specs.Reading.{chosen, row_at}
use Rattle.row_reader.specs.Starts.{Stops, IsPart}

-- ---- steps

abbrev pub done : {A : Type 0} → A → Result A Rows
done x = Ok x

abbrev pub stuck_at : (A : Type 0) → Rows → Result A Rows
stuck_at A rows = Err rows

pub ok_is : {A : Type 0} (x y : A) → done x ≡ done y → x ≡ y
ok_is x y e = cc

-- a value and the rows behind it are told from what reading gives
pub ok_parts : {A : Type 0} (a x : A) (b y : Rows) → done {A = A × Rows} (a, b) ≡ done {A = A × Rows} (x, y) → (a ≡ x) × (b ≡ y)
ok_parts {A} a x b y e = let p = ok_is {A = A × Rows} (a, b) (x, y) e in (ap (λ q. q.0) p, ap (λ q. q.1) p)

pub err_is : (A : Type 0) (x y : Rows) → stuck_at A x ≡ stuck_at A y → x ≡ y
err_is A x y e = cc

-- ---- one row

-- a row that spells a value, in one way
pub record IsRow {X : Type 0} (Fits : X → Type 0) (line : X → Row) (one : Row → Option X) : Type 0 where
  pub found : (row : Row) (x : X) → one row ≡ Some x → Fits x × (row ≡ line x)
  pub again : (x : X) → Fits x → one (line x) ≡ Some x

abbrev pub one_line : {X : Type 0} → (X → Row) → X → Rows
one_line line x = line x ∷ []

pub chosen_ok : {X : Type 0} (o : Option X) (row : Row) (rows rest : Rows) (x : X) → chosen o row rows ≡ Ok (x, rest) → (o ≡ Some x)
    × (rows ≡ rest)
chosen_ok (Some y) row rows rest x e =
    let p = ok_parts y x rows rest e in
    (ap (λ z. Some z) p.0, p.1)
chosen_ok None row rows rest x e = absurd cc

pub chosen_err : {X : Type 0} (o : Option X) (row : Row) (rows stuck : Rows) → chosen o row rows ≡ Err stuck → (o ≡ None)
    × (row ∷ rows ≡ stuck)
chosen_err (Some y) row rows stuck e = absurd cc
chosen_err {X} None row rows stuck e = (refl, err_is (X × Rows) (row ∷ rows) stuck e)

pub head_is : (a b : Row) (xs ys : Rows) → a ∷ xs ≡ b ∷ ys → a ≡ b
head_is a b xs ys e = cc

pub tail_is : (a b : Row) (xs ys : Rows) → a ∷ xs ≡ b ∷ ys → xs ≡ ys
tail_is a b xs ys e = cc

pub row_takes : {X : Type 0} (Fits : X → Type 0) (line : X → Row) (one : Row → Option X) → IsRow Fits line one
    → (rows rest : Rows) (x : X) → row_at one rows ≡ Ok (x, rest) → Fits x × (rows ≡ line x ∷ rest)
row_takes Fits line one law [] rest x e = absurd cc
row_takes Fits line one law (row ∷ rows) rest x e =
    let p = chosen_ok (one row) row rows rest x e in
    let f = law.found row x p.0 in
    (f.0, ap (λ (r : Row). r ∷ rows) f.1 ∙ ap (λ (r : Rows). line x ∷ r) p.1)

row_stops : {X : Type 0} (Fits : X → Type 0) (line : X → Row) (one : Row → Option X) → IsRow Fits line one → ((x : X) × Fits x)
    → (rows stuck : Rows) → row_at one rows ≡ Err stuck → Stops Fits (one_line line) rows stuck
row_stops {X} Fits line one law some [] stuck e = record {
  front = [];
  are = err_is (X × Rows) [] stuck e;
  begins = record { value = some.0; fits = some.1; next = line some.0; more = []; are = refl };
  ends = λ row more is _. absurd (let none : [] ≡ row ∷ more = err_is (X × Rows) [] stuck e ∙ is in cc);
}
row_stops {X} Fits line one law some (row ∷ rows) stuck e =
    let p = chosen_err (one row) row rows stuck e in
    record {
      front = [];
      are = p.1;
      begins = record { value = some.0; fits = some.1; next = line some.0; more = []; are = refl };
      ends = λ other more is agrees.
          let same : row ≡ other = head_is row other rows more (p.1 ∙ is) in
          let spelled : other ≡ line agrees.value = head_is other (line agrees.value) agrees.here agrees.there agrees.are in
          none-some agrees.value (sym p.0 ∙ ap one (same ∙ spelled) ∙ law.again agrees.value agrees.fits);
    }

-- A row is a part. The value stands where the row is missing.
pub row_part : {X : Type 0} (Fits : X → Type 0) (line : X → Row) (one : Row → Option X) → IsRow Fits line one → ((x : X) × Fits x)
    → IsPart Fits (one_line line) (row_at one)
row_part Fits line one law some = record {
  takes = row_takes Fits line one law;
  again = λ x rest fits. ap (λ o. chosen o (line x) rest) (law.again x fits);
  stops = row_stops Fits line one law some;
  some = some;
}

-- ---- a part that goes on until something else follows

-- the rows before the stuck ones begin a value with what may follow it, and with the first stuck row they begin none
pub record StopsBefore {X : Type 0} (MayFollow : Rows → Type 0) (Fits : X → Type 0) (spell : X → Rows) (rows stuck : Rows) : Type 0 where
  pub front : Rows
  pub are : rows ≡ front ++ stuck
  pub value : X
  pub fits : Fits value
  pub goes_on : (rest : Rows) → MayFollow rest → (next : Row) × (more : Rows) × (spell value ++ rest ≡ front ++ next ∷ more)
  pub ends : (row : Row) (more : Rows) → stuck ≡ row ∷ more → (x : X) (here there : Rows) → Fits x → MayFollow there → (front ++ row ∷ [])
      ++ here ≡ spell x ++ there → ⊥

-- As IsPart, where the end of the part is told by what follows it. What is left behind it may follow,
-- and so may each front of that with other rows behind it, if the front isn't empty.
pub record IsPartBefore {X : Type 0} (MayFollow : Rows → Type 0) (Fits : X → Type 0) (spell : X → Rows)
    (read : Rows → Result (X × Rows) Rows) : Type 0 where
  pub takes : (rows rest : Rows) (x : X) → read rows ≡ Ok (x, rest) → Fits x × (rows ≡ spell x ++ rest)
  pub leaves : (rows front others here : Rows) (row : Row) (x : X) → read rows ≡ Ok (x, front ++ row ∷ others)
      → MayFollow (front ++ row ∷ here)
  pub again : (x : X) (rest : Rows) → Fits x → MayFollow rest → read (spell x ++ rest) ≡ Ok (x, rest)
  pub stops : (rows stuck : Rows) → read rows ≡ Err stuck → StopsBefore MayFollow Fits spell rows stuck
  pub some : (x : X) × Fits x

-- anything may follow a part that ends by itself
pub part_before : {X : Type 0} (Fits : X → Type 0) (spell : X → Rows) (read : Rows → Result (X × Rows) Rows) → IsPart Fits spell read
    → IsPartBefore (λ rest. Unit {0}) Fits spell read
part_before Fits spell read part = record {
  takes = part.takes;
  leaves = λ rows front others here row x e. tt;
  again = λ x rest fits follows. part.again x rest fits;
  stops = λ rows stuck e.
      let s = part.stops rows stuck e in
      record {
        front = s.front;
        are = s.are;
        value = s.begins.value;
        fits = s.begins.fits;
        goes_on = λ rest follows. (
          s.begins.next,
          s.begins.more ++ rest,
          ap (λ (r : Rows). r ++ rest) s.begins.are
              ∙ append_assoc s.front (s.begins.next ∷ s.begins.more) rest,
        );
        ends = λ row more is x here there fits follows e. s.ends row more is
            (record { value = x; fits = fits; here = here; there = there; are = e });
      };
  some = part.some;
}

-- ---- a part, and what follows it

abbrev pub then_fits : {X Z : Type 0} → (X → Type 0) → (Z → X) → (Z → Type 0) → Z → Type 0
then_fits Fits first FitsMore z = Fits (first z) × FitsMore z

abbrev pub then_spell : {X Z : Type 0} → (X → Rows) → (Z → X) → (Z → Rows) → Z → Rows
then_spell spell first spell_more z = spell (first z) ++ spell_more z

abbrev pub then_read : {X Z : Type 0} → (Rows → Result (X × Rows) Rows) → (X → Rows → Result (Z × Rows) Rows) → Rows
    → Result (Z × Rows) Rows
then_read read read_more rows = read rows >>= λ p. read_more p.0 p.1

abbrev pub given_fits : {X Z : Type 0} → (Z → X) → (Z → Type 0) → X → Z → Type 0
given_fits first FitsMore x z = (first z ≡ x) × FitsMore z

module _ {X Z : Type 0} (MayFollow : Rows → Type 0) (Fits : X → Type 0) (spell : X → Rows) (read : Rows → Result (X × Rows) Rows)
    (first : Z → X) (FitsMore : Z → Type 0) (spell_more : Z → Rows) (read_more : X → Rows → Result (Z × Rows) Rows)
    (part : IsPartBefore MayFollow Fits spell read) (follows : (z : Z) (rest : Rows) → FitsMore z → MayFollow (spell_more z ++ rest))
    (more : (x : X) → Fits x → IsPart (given_fits first FitsMore x) spell_more (read_more x)) where
  section_takes : (rows rest : Rows) (z : Z) → then_read read read_more rows ≡ Ok (z, rest) → then_fits Fits first FitsMore z
      × (rows ≡ then_spell spell first spell_more z ++ rest)
  section_takes rows rest z e =
      let b = bind_ok (read rows) (λ p. read_more p.0 p.1) (z, rest) e in
      let t = part.takes rows b.0.1 b.0.0 b.1 in
      let u = (more b.0.0 t.0).takes b.0.1 rest z b.2 in (
        (subst Fits (sym u.0.0) t.0, u.0.1),
        t.1 ∙ ap (λ (r : Rows). spell b.0.0 ++ r) u.1 ∙ sym (append_assoc (spell b.0.0) (spell_more z) rest)
            ∙ ap (λ x. (spell x ++ spell_more z) ++ rest) (sym u.0.0),
      )

  section_again : (z : Z) (rest : Rows) → then_fits Fits first FitsMore z
      → then_read read read_more (then_spell spell first spell_more z ++ rest) ≡ Ok (z, rest)
  section_again z rest fits =
      ap (then_read read read_more) (append_assoc (spell (first z)) (spell_more z) rest)
      ∙ ap (λ r. r >>= λ p. read_more p.0 p.1) (part.again (first z) (spell_more z ++ rest) fits.0 (follows z rest fits.1))
      ∙ (more (first z) fits.0).again z rest (refl, fits.1)

  -- the part itself is stuck
  first_stops : (rows stuck : Rows) → read rows ≡ Err stuck
      → Stops (then_fits Fits first FitsMore) (then_spell spell first spell_more) rows stuck
  first_stops rows stuck e =
      let s = part.stops rows stuck e in
      let z = (more s.value s.fits).some in
      let on = s.goes_on (spell_more z.0 ++ []) (follows z.0 [] z.1.1) in
      record {
        front = s.front;
        are = s.are;
        begins = record {
          value = z.0;
          fits = (subst Fits (sym z.1.0) s.fits, z.1.1);
          next = on.0;
          more = on.1;
          are = ap (λ x. spell x ++ spell_more z.0) z.1.0 ∙ ap (λ (r : Rows). spell s.value ++ r) (sym (append-nil (spell_more z.0)))
              ∙ on.2;
        };
        ends = λ row others is agrees.
            s.ends row others is (first agrees.value) agrees.here (spell_more agrees.value ++ agrees.there) agrees.fits.0
            (follows agrees.value agrees.there agrees.fits.1)
            (agrees.are ∙ append_assoc (spell (first agrees.value)) (spell_more agrees.value) agrees.there);
      }

  -- what follows is stuck: rows with the same front have the same part
  more_stops : (rows rest stuck : Rows) (x : X) → read rows ≡ Ok (x, rest) → read_more x rest ≡ Err stuck
      → Stops (then_fits Fits first FitsMore) (then_spell spell first spell_more) rows stuck
  more_stops rows rest stuck x e e_more =
      let t = part.takes rows rest x e in
      let s = (more x t.0).stops rest stuck e_more in
      record {
        front = spell x ++ s.front;
        are = t.1 ∙ ap (λ (r : Rows). spell x ++ r) s.are ∙ sym (append_assoc (spell x) s.front stuck);
        begins = record {
          value = s.begins.value;
          fits = (subst Fits (sym s.begins.fits.0) t.0, s.begins.fits.1);
          next = s.begins.next;
          more = s.begins.more;
          are = ap (λ y. spell y ++ spell_more s.begins.value) s.begins.fits.0 ∙ ap (λ (r : Rows). spell x ++ r) s.begins.are
              ∙ sym (append_assoc (spell x) s.front (s.begins.next ∷ s.begins.more));
        };
        ends = λ row others is agrees.
            let tail : Rows = s.front ++ row ∷ agrees.here in
            let left : ((spell x ++ s.front) ++ row ∷ []) ++ agrees.here ≡ spell x ++ tail = simp append_assoc in
            let right = append_assoc (spell (first agrees.value)) (spell_more agrees.value) agrees.there in
            let kept = part.leaves rows s.front others agrees.here row x
            (e ∙ ap (λ (r : Rows). Ok (x, r)) (s.are ∙ ap (λ (r : Rows). s.front ++ r) is)) in
            let mine = part.again x tail t.0 kept in
            let other = part.again (first agrees.value) (spell_more agrees.value ++ agrees.there) agrees.fits.0
            (follows agrees.value agrees.there agrees.fits.1) in
            let both = ok_parts x (first agrees.value) tail (spell_more agrees.value ++ agrees.there)
            (sym mine ∙ ap read (sym left ∙ agrees.are ∙ right) ∙ other) in
            s.ends row others is (record {
              value = agrees.value;
              fits = (sym both.0, agrees.fits.1);
              here = agrees.here;
              there = agrees.there;
              are = append_assoc s.front (row ∷ []) agrees.here ∙ both.1;
            });
      }

  pub then_part_before : IsPart (then_fits Fits first FitsMore) (then_spell spell first spell_more) (then_read read read_more)
  then_part_before =
      let x = part.some in
      let z = (more x.0 x.1).some in
      record {
        takes = section_takes;
        again = section_again;
        stops = λ rows stuck e.
            elim (bind_err (read rows) (λ p. read_more p.0 p.1) stuck e) [
              | inl here ↦ first_stops rows stuck here
              | inr later ↦ more_stops rows later.0.1 stuck later.0.0 later.1 later.2
            ];
        some = (z.0, (subst Fits (sym z.1.0) x.1, z.1.1));
      }

pub then_part : {X Z : Type 0} (Fits : X → Type 0) (spell : X → Rows) (read : Rows → Result (X × Rows) Rows)
    (first : Z → X) (FitsMore : Z → Type 0) (spell_more : Z → Rows) (read_more : X → Rows → Result (Z × Rows) Rows)
    → IsPart Fits spell read → ((x : X) → Fits x → IsPart (given_fits first FitsMore x) spell_more (read_more x))
    → IsPart (then_fits Fits first FitsMore) (then_spell spell first spell_more) (then_read read read_more)
then_part Fits spell read first FitsMore spell_more read_more part more =
    then_part_before (λ rest. Unit {0}) Fits spell read first FitsMore spell_more read_more (part_before Fits spell read part)
    (λ z rest fits. tt) more
