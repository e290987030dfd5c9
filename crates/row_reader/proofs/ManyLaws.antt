-- A part in other words, a part that comes many times, one that comes once for each of a list, and
-- what is known of a value while its parts are read.
use Rattle.std.proofs.Common.{◌≡◌, ℕ, Bool, true, false, cond, List, [], ◌∷◌, ◌++◌, map, Option, Some, None, Result, Ok, Err, refl, sym, ap}
use Rattle.std.proofs.Common.{subst, ◌∙◌, append_assoc, inl, inr}
use Rattle.std.proofs.lemmas.Bool.{both_ways, cases_Bool}
use Rattle.std.proofs.lemmas.Option.{same_Some, none-some}
use Rattle.row_reader.specs.Rows.{Row, Rows}
use Rattle.kmp_base.specs.Bind.{◌>>=◌}
use Rattle.kmp_base.proofs.ReadingLaws.{bind_ok, bind_err}
use Rattle.row_reader.specs.Reading.{chosen, many_at, each_at}
use Rattle.row_reader.specs.Starts.{Stops, IsPart, AreFit, EachFits, each_spell}
use Rattle.row_reader.proofs.PartLaws.{done, ok_parts, chosen_ok, chosen_err, head_is, tail_is, then_read, given_fits}
use Rattle.row_reader.proofs.PartLaws.{StopsBefore, IsPartBefore, part_before, then_part_before, then_part}

-- ---- a part in other words

-- where each value of one kind has one of the other, with the same rows, both stop at the same row
stops_as : {X Y : Type 0} (Fits : X → Type 0) (spell : X → Rows) (Fits' : Y → Type 0) (spell' : Y → Rows) (f : X → Y)
    → ((x : X) → Fits x → Fits' (f x)) → ((x : X) → Fits x → spell x ≡ spell' (f x)) → ((y : Y) → Fits' y → (x : X) × Fits x × (f x ≡ y))
    → (rows stuck : Rows) → Stops Fits spell rows stuck → Stops Fits' spell' rows stuck
stops_as Fits spell Fits' spell' f to same from rows stuck s = record {
  front = s.front;
  are = s.are;
  begins = record {
    value = f s.begins.value;
    fits = to s.begins.value s.begins.fits;
    next = s.begins.next;
    more = s.begins.more;
    are = sym (same s.begins.value s.begins.fits) ∙ s.begins.are;
  };
  ends = λ row more is agrees.
      let x = from agrees.value agrees.fits in
      s.ends row more is (record {
        value = x.0;
        fits = x.1;
        here = agrees.here;
        there = agrees.there;
        are = agrees.are ∙ ap (λ (r : Rows). r ++ agrees.there) (ap spell' (sym x.2) ∙ sym (same x.0 x.1));
      });
}

-- the same values, rows and reading in other words
pub part_as : {X : Type 0} (Fits Fits' : X → Type 0) (spell spell' : X → Rows) (read : Rows → Result (X × Rows) Rows)
    → ((x : X) → Fits x → Fits' x) → ((x : X) → Fits' x → Fits x) → ((x : X) → Fits x → spell x ≡ spell' x)
    → IsPart Fits spell read → IsPart Fits' spell' read
part_as Fits Fits' spell spell' read to from same part = record {
  takes = λ rows rest x e.
      let t = part.takes rows rest x e in
      (to x t.0, t.1 ∙ ap (λ (r : Rows). r ++ rest) (same x t.0));
  again = λ x rest fits. ap (λ (r : Rows). read (r ++ rest)) (sym (same x (from x fits))) ∙ part.again x rest (from x fits);
  stops = λ rows stuck e. stops_as Fits spell Fits' spell' (λ x. x) to same (λ x fits. (x, from x fits, refl)) rows stuck
      (part.stops rows stuck e);
  some = (part.some.0, to part.some.0 part.some.1);
}

-- values made of the values of a part
pub map_part : {X Y : Type 0} (Fits : X → Type 0) (spell : X → Rows) (read : Rows → Result (X × Rows) Rows) (Fits' : Y → Type 0)
    (spell' : Y → Rows) (f : X → Y)
    → ((x : X) → Fits x → Fits' (f x)) → ((x : X) → Fits x → spell x ≡ spell' (f x)) → ((y : Y) → Fits' y → (x : X) × Fits x × (f x ≡ y))
    → IsPart Fits spell read → IsPart Fits' spell' (λ rows. read rows >>= λ q. Ok (f q.0, q.1))
map_part Fits spell read Fits' spell' f to same from part = record {
  takes = λ rows rest y e.
      let b = bind_ok (read rows) (λ q. Ok (f q.0, q.1)) (y, rest) e in
      let t = part.takes rows b.0.1 b.0.0 b.1 in
      let p = ok_parts (f b.0.0) y b.0.1 rest b.2 in (
        subst Fits' p.0 (to b.0.0 t.0),
        t.1 ∙ ap (λ (r : Rows). r ++ b.0.1) (same b.0.0 t.0 ∙ ap spell' p.0) ∙ ap (λ (r : Rows). spell' y ++ r) p.1,
      );
  again = λ y rest fits.
      let x = from y fits in
      ap (λ (r : Rows). read (r ++ rest) >>= λ q. Ok (f q.0, q.1)) (ap spell' (sym x.2) ∙ sym (same x.0 x.1))
      ∙ ap (λ r. r >>= λ q. Ok (f q.0, q.1)) (part.again x.0 rest x.1)
      ∙ ap (λ z. Ok (z, rest)) x.2;
  stops = λ rows stuck e.
      elim (bind_err (read rows) (λ q. Ok (f q.0, q.1)) stuck e) [
        | inl here ↦ stops_as Fits spell Fits' spell' f to same from rows stuck (part.stops rows stuck here)
        | inr later ↦ absurd (let no = later.2 in cc)
      ];
  some = (f part.some.0, to part.some.0 part.some.1);
}

-- nothing more is read
pub last_part : {X : Type 0} (w : X) → IsPart (λ x. x ≡ w) (λ x. []) (λ rows. Ok (w, rows))
last_part w = record {
  takes = λ rows rest x e.
      let p = ok_parts w x rows rest e in
      (sym p.0, p.1);
  again = λ x rest is. ap (λ y. Ok (y, rest)) (sym is);
  stops = λ rows stuck e. absurd cc;
  some = (w, refl);
}

-- ---- many

-- rows that pass a test and spell values, each in one way by the number that comes before it
pub record AreRows {X : Type 0} (FitsAt : ℕ → X → Type 0) (line : X → Row) (test : Row → Bool) (one : ℕ → Row → Option X) : Type 0 where
  pub found : (low : ℕ) (row : Row) (x : X) → one low row ≡ Some x → FitsAt low x × (row ≡ line x)
  pub again : (low : ℕ) (x : X) → FitsAt low x → one low (line x) ≡ Some x
  pub pass : (low : ℕ) (x : X) → FitsAt low x → test (line x) ≡ true

-- the rows begin with one that fails the test
pub record BeginsOther (test : Row → Bool) (rows : Rows) : Type 0 where
  pub first : Row
  pub others : Rows
  pub are : rows ≡ first ∷ others
  pub fails : test first ≡ false

-- the number behind values
abbrev low_after : {X : Type 0} → (X → ℕ) → ℕ → List X → ℕ
low_after next low [] = low
low_after next low (x ∷ xs) = low_after next (next x) xs

-- reading stands at a row that passes the test and isn't one
record StandsAt {X : Type 0} (FitsAt : ℕ → X → Type 0) (line : X → Row) (test : Row → Bool) (one : ℕ → Row → Option X) (next : X → ℕ)
    (low : ℕ) (rows stuck : Rows) : Type 0 where
  values : List X
  fits : AreFit FitsAt next low values
  row : Row
  more : Rows
  are : rows ≡ map line values ++ row ∷ more
  stuck_are : row ∷ more ≡ stuck
  passes : test row ≡ true
  not_one : one (low_after next low values) row ≡ None

module _ {X : Type 0} (FitsAt : ℕ → X → Type 0) (line : X → Row) (test : Row → Bool) (one : ℕ → Row → Option X) (next : X → ℕ)
    (law : AreRows FitsAt line test one) where
  -- the values behind a first one
  abbrev onto : X → Result (List X × Rows) Rows → Result (List X × Rows) Rows
  onto x read = read >>= λ q. Ok (x ∷ q.0, q.1)

  -- reading at a row, where it is told whether it passes the test
  abbrev many_step : ℕ → Row → Rows → Bool → Result (List X × Rows) Rows
  many_step low row rows passes = cond passes (chosen (one low row) row rows >>= λ p. onto p.0 (many_at test one next (next p.0) rows))
      (Ok ([], row ∷ rows))

  -- there is no first row, or it fails the test
  abbrev FirstFails : Rows → Type 0
  FirstFails rest = (row : Row) (more : Rows) → rest ≡ row ∷ more → test row ≡ false

  -- the rows of fitting values, and then none that passes the test
  abbrev Taken : ℕ → Rows → List X → Rows → Type 0
  Taken low rows xs rest = AreFit FitsAt next low xs × (rows ≡ map line xs ++ rest) × FirstFails rest

  taken_as : (low : ℕ) (rows : Rows) (ys xs : List X) (left rest : Rows)
      → done {A = List X × Rows} (ys, left) ≡ done {A = List X × Rows} (xs, rest) → Taken low rows ys left → Taken low rows xs rest
  taken_as low rows ys xs left rest e t =
      let p = ok_parts ys xs left rest e in
      subst (λ zs. Taken low rows zs rest) p.0 (subst (Taken low rows ys) p.1 t)

  taken_more : (low : ℕ) (row : Row) (rows : Rows) (x : X) (xs : List X) (rest : Rows) → FitsAt low x × (row ≡ line x)
      → Taken (next x) rows xs rest → Taken low (row ∷ rows) (x ∷ xs) rest
  taken_more low row rows x xs rest f t = ((f.0, t.0), ap (λ (r : Row). r ∷ rows) f.1 ∙ ap (λ (r : Rows). line x ∷ r) t.1, t.2)

  many_takes : (rows : Rows) (low : ℕ) (xs : List X) (rest : Rows) → many_at test one next low rows ≡ Ok (xs, rest) → Taken low rows xs rest
  many_takes [] low xs rest e = taken_as low [] [] xs [] rest e (tt, refl, λ row more is. absurd cc)
  many_takes (row ∷ rows) low xs rest e =
      elim (cases_Bool (test row)) [
        | inl passing ↦
            let e' = ap (many_step low row rows) (sym passing) ∙ e in
            let b = bind_ok (chosen (one low row) row rows) (λ p. onto p.0 (many_at test one next (next p.0) rows)) (xs, rest) e' in
            let x = b.0.0 in
            let c = bind_ok (many_at test one next (next x) rows) (λ q. Ok (x ∷ q.0, q.1)) (xs, rest) b.2 in
            let f = law.found low row x (chosen_ok (one low row) row rows b.0.1 x b.1).0 in
            taken_as low (row ∷ rows) (x ∷ c.0.0) xs c.0.1 rest c.2
            (taken_more low row rows x c.0.0 c.0.1 f (many_takes rows (next x) c.0.0 c.0.1 c.1))
        | inr failing ↦
            taken_as low (row ∷ rows) [] xs (row ∷ rows) rest (ap (many_step low row rows) (sym failing) ∙ e)
            (tt, refl, λ first more is. ap test (sym (head_is row first rows more is)) ∙ failing)
      ]

  many_again : (xs : List X) (low : ℕ) (rest : Rows) → AreFit FitsAt next low xs → BeginsOther test rest
      → many_at test one next low (map line xs ++ rest) ≡ Ok (xs, rest)
  many_again [] low rest fits other =
      ap (many_at test one next low) other.are ∙ ap (many_step low other.first other.others) other.fails
      ∙ ap (λ (r : Rows). Ok ([], r)) (sym other.are)
  many_again (x ∷ xs) low rest fits other =
      ap (many_step low (line x) (map line xs ++ rest)) (law.pass low x fits.0)
      ∙ ap (λ o. chosen o (line x) (map line xs ++ rest) >>= λ p. onto p.0 (many_at test one next (next p.0) (map line xs ++ rest)))
      (law.again low x fits.0)
      ∙ ap (onto x) (many_again xs (next x) rest fits.1 other)

  many_stands : (rows : Rows) (low : ℕ) (stuck : Rows) → many_at test one next low rows ≡ Err stuck
      → StandsAt FitsAt line test one next low rows stuck
  many_stands [] low stuck e = absurd cc
  many_stands (row ∷ rows) low stuck e =
      elim (cases_Bool (test row)) [
        | inl passing ↦
            let e' = ap (many_step low row rows) (sym passing) ∙ e in
            elim (bind_err (chosen (one low row) row rows) (λ p. onto p.0 (many_at test one next (next p.0) rows)) stuck e') [
              | inl here ↦
                  let o = chosen_err (one low row) row rows stuck here in
                  record { values = []; fits = tt; row = row; more = rows; are = refl; stuck_are = o.1; passes = passing; not_one = o.0 }
              | inr later ↦
                  let x = later.0.0 in
                  let f = law.found low row x (chosen_ok (one low row) row rows later.0.1 x later.1).0 in
                  elim (bind_err (many_at test one next (next x) rows) (λ q. Ok (x ∷ q.0, q.1)) stuck later.2) [
                    | inl deeper ↦
                        let s = many_stands rows (next x) stuck deeper in
                        record {
                          values = x ∷ s.values;
                          fits = (f.0, s.fits);
                          row = s.row;
                          more = s.more;
                          are = ap (λ (r : Row). r ∷ rows) f.1 ∙ ap (λ (r : Rows). line x ∷ r) s.are;
                          stuck_are = s.stuck_are;
                          passes = s.passes;
                          not_one = s.not_one;
                        }
                    | inr never ↦ absurd (let no = never.2 in cc)
                  ]
            ]
        | inr failing ↦ absurd (let e' = ap (many_step low row rows) (sym failing) ∙ e in cc)
      ]

  -- rows that go on with one that passes the test and isn't one go on as no value does
  conflict : (xs ys : List X) (low : ℕ) (row : Row) (here there : Rows)
      → AreFit FitsAt next low xs → AreFit FitsAt next low ys → BeginsOther test there → test row ≡ true
      → one (low_after next low xs) row ≡ None
      → map line xs ++ row ∷ here ≡ map line ys ++ there → ⊥
  conflict [] [] low row here there fx fy other passes not e =
      both_ways (test row) (ap test (head_is row other.first here other.others (e ∙ other.are)) ∙ other.fails) passes
  conflict [] (y ∷ ys) low row here there fx fy other passes not e =
      none-some y (sym not ∙ ap (one low) (head_is row (line y) here (map line ys ++ there) e) ∙ law.again low y fy.0)
  conflict (x ∷ xs) [] low row here there fx fy other passes not e =
      both_ways (test (line x)) (ap test (head_is (line x) other.first (map line xs ++ row ∷ here) other.others (e ∙ other.are))
      ∙ other.fails) (law.pass low x fx.0)
  conflict (x ∷ xs) (y ∷ ys) low row here there fx fy other passes not e =
      let same = head_is (line x) (line y) (map line xs ++ row ∷ here) (map line ys ++ there) e in
      let x_is : x ≡ y = same_Some x y (sym (law.again low x fx.0) ∙ ap (one low) same ∙ law.again low y fy.0) in
      conflict xs ys (next x) row here there fx.1 (subst (λ w. AreFit FitsAt next (next w) ys) (sym x_is) fy.1) other passes not
      (tail_is (line x) (line y) (map line xs ++ row ∷ here) (map line ys ++ there) e)

  many_stops : (low : ℕ) (rows stuck : Rows) → many_at test one next low rows ≡ Err stuck
      → StopsBefore (BeginsOther test) (AreFit FitsAt next low) (map line) rows stuck
  many_stops low rows stuck e =
      let s = many_stands rows low stuck e in
      record {
        front = map line s.values;
        are = s.are ∙ ap (λ (r : Rows). map line s.values ++ r) s.stuck_are;
        value = s.values;
        fits = s.fits;
        goes_on = λ rest other. (other.first, other.others, ap (λ (r : Rows). map line s.values ++ r) other.are);
        ends = λ row others is ys here there fits other same.
            let first : s.row ≡ row = head_is s.row row s.more others (s.stuck_are ∙ is) in
            conflict s.values ys low s.row here there s.fits fits other s.passes s.not_one
            (ap (λ (r : Row). map line s.values ++ r ∷ here) first ∙ sym (append_assoc (map line s.values) (row ∷ []) here) ∙ same);
      }

  -- a front of rows of which the first fails the test does so too, if it isn't empty
  front_other : (front others here : Rows) (row : Row) → FirstFails (front ++ row ∷ others) → BeginsOther test (front ++ row ∷ here)
  front_other [] others here row fails = record { first = row; others = here; are = refl; fails = fails row others refl }
  front_other (f ∷ front) others here row fails =
      record { first = f; others = front ++ row ∷ here; are = refl; fails = fails f (front ++ row ∷ others) refl }

  many_before : (low : ℕ) → IsPartBefore (BeginsOther test) (AreFit FitsAt next low) (map line) (many_at test one next low)
  many_before low = record {
    takes = λ rows rest xs e. let t = many_takes rows low xs rest e in (t.0, t.1);
    leaves = λ rows front others here row xs e. front_other front others here row (many_takes rows low xs (front ++ row ∷ others) e).2;
    again = λ xs rest fits other. many_again xs low rest fits other;
    stops = many_stops low;
    some = ([], tt);
  }

-- rows that begin with a row that fails the test do so whatever follows them
other_then : (test : Row → Bool) (rows rest : Rows) → BeginsOther test rows → BeginsOther test (rows ++ rest)
other_then test rows rest o = record
    { first = o.first; others = o.others ++ rest; are = ap (λ (r : Rows). r ++ rest) o.are; fails = o.fails }

-- ---- one for each

-- what fits of the values but the first, of which there has to be one
abbrev MoreFit : {A X : Type 0} → (A → X → Type 0) → List A → List X → Type 0
MoreFit Fits more [] = ⊥
MoreFit Fits more (x ∷ xs) = EachFits Fits more xs

-- the rows of the values but the first
abbrev more_spell : {A X : Type 0} → (A → X → Rows) → List A → List X → Rows
more_spell spell more [] = []
more_spell spell more (x ∷ xs) = each_spell spell more xs

abbrev first_or : {X : Type 0} → X → List X → X
first_or d [] = d
first_or d (x ∷ xs) = x

-- EachFits of one key and more, by the first value and the others
abbrev all_fit : {A X : Type 0} → (A → X → Type 0) → X → A → List A → List X → Type 0
all_fit Fits d a more xs = Fits a (first_or d xs) × MoreFit Fits more xs

each_to : {A X : Type 0} (Fits : A → X → Type 0) (d : X) (a : A) (more : List A) (xs : List X) → all_fit Fits d a more xs
    → EachFits Fits (a ∷ more) xs
each_to Fits d a more [] fits = fits.1
each_to Fits d a more (x ∷ xs) fits = fits

each_from : {A X : Type 0} (Fits : A → X → Type 0) (d : X) (a : A) (more : List A) (xs : List X) → EachFits Fits (a ∷ more) xs
    → all_fit Fits d a more xs
each_from Fits d a more [] fits = absurd fits
each_from Fits d a more (x ∷ xs) fits = fits

cons_from : {A X : Type 0} (Fits : A → X → Type 0) (d : X) (more : List A) (x : X) (ys : List X)
    → given_fits (first_or d) (MoreFit Fits more) x ys → (xs : List X) × EachFits Fits more xs × (x ∷ xs ≡ ys)
cons_from Fits d more x [] fits = absurd fits.1
cons_from Fits d more x (y ∷ ys) fits = (ys, fits.1, ap (λ w. w ∷ ys) (sym fits.0))

each_same : {A X : Type 0} (Fits : A → X → Type 0) (spell : A → X → Rows) (d : X) (a : A) (more : List A) (xs : List X)
    → all_fit Fits d a more xs
    → spell a (first_or d xs) ++ more_spell spell more xs ≡ each_spell spell (a ∷ more) xs
each_same Fits spell d a more [] fits = absurd fits.1
each_same Fits spell d a more (x ∷ xs) fits = refl

no_more : {A X : Type 0} (Fits : A → X → Type 0) (xs : List X) → xs ≡ [] → EachFits Fits [] xs
no_more Fits [] e = tt
no_more Fits (x ∷ xs) e = absurd cc

none_left : {A X : Type 0} (Fits : A → X → Type 0) (xs : List X) → EachFits Fits [] xs → xs ≡ []
none_left Fits [] fits = refl
none_left Fits (x ∷ xs) fits = absurd fits

-- a part for each key
pub each_part : {A X : Type 0} (Fits : A → X → Type 0) (spell : A → X → Rows) (read : A → Rows → Result (X × Rows) Rows)
    → ((a : A) → IsPart (Fits a) (spell a) (read a)) → (keys : List A)
    → IsPart (EachFits Fits keys) (each_spell spell keys) (each_at read keys)
each_part {A} {X} Fits spell read part [] =
    part_as (λ xs. xs ≡ []) (EachFits Fits []) (λ xs. []) (each_spell spell []) (each_at read []) (no_more Fits) (none_left Fits)
    (λ xs fits. refl) (last_part [])
each_part {A} {X} Fits spell read part (a ∷ more) =
    let d = (part a).some.0 in
    part_as (all_fit Fits d a more) (EachFits Fits (a ∷ more)) (λ xs. spell a (first_or d xs) ++ more_spell spell more xs)
    (each_spell spell (a ∷ more)) (each_at read (a ∷ more))
    (each_to Fits d a more) (each_from Fits d a more) (each_same Fits spell d a more)
    (then_part (Fits a) (spell a) (read a) (first_or d) (MoreFit Fits more) (more_spell spell more)
    (λ x rows. each_at read more rows >>= λ q. Ok (x ∷ q.0, q.1)) (part a)
    (λ x fits. map_part (EachFits Fits more) (each_spell spell more) (each_at read more) (given_fits (first_or d) (MoreFit Fits more) x)
    (more_spell spell more) (λ xs. x ∷ xs)
    (λ xs h. (refl, h)) (λ xs h. refl) (cons_from Fits d more x) (each_part Fits spell read part more)))

-- ---- what is known of the value so far

-- A part, and what follows it. What is known of the value is kept in Known, and what is to be read in Rest.
known_before : {X Z : Type 0} (MayFollow : Rows → Type 0) (Fits : X → Type 0) (spell : X → Rows) (read : Rows → Result (X × Rows) Rows)
    (first : Z → X) (Known Rest : Z → Type 0) (spell_more : Z → Rows) (read_more : X → Rows → Result (Z × Rows) Rows)
    → IsPartBefore MayFollow Fits spell read → ((z : Z) (rest : Rows) → Rest z → MayFollow (spell_more z ++ rest))
    → ((x : X) → Fits x → IsPart (λ z. ((first z ≡ x) × Known z) × Rest z) spell_more (read_more x))
    → IsPart (λ z. Known z × (Fits (first z) × Rest z)) (λ z. spell (first z) ++ spell_more z) (then_read read read_more)
known_before MayFollow Fits spell read first Known Rest spell_more read_more part follows more =
    part_as (λ z. Fits (first z) × (Known z × Rest z)) (λ z. Known z × (Fits (first z) × Rest z)) (λ z. spell (first z) ++ spell_more z)
    (λ z. spell (first z) ++ spell_more z) (then_read read read_more)
    (λ z h. (h.1.0, (h.0, h.1.1))) (λ z h. (h.1.0, (h.0, h.1.1))) (λ z h. refl)
    (then_part_before MayFollow Fits spell read first (λ z. Known z × Rest z) spell_more read_more part (λ z rest h. follows z rest h.1)
    (λ x fits. part_as (λ z. ((first z ≡ x) × Known z) × Rest z) (given_fits first (λ z. Known z × Rest z) x) spell_more spell_more
    (read_more x)
    (λ z h. (h.0.0, (h.0.1, h.1))) (λ z h. ((h.0, h.1.0), h.1.1)) (λ z h. refl) (more x fits)))

-- one part, and what follows it
pub then_known : {X Z : Type 0} (Fits : X → Type 0) (spell : X → Rows) (read : Rows → Result (X × Rows) Rows)
    (first : Z → X) (Known Rest : Z → Type 0) (spell_more : Z → Rows) (read_more : X → Rows → Result (Z × Rows) Rows)
    → IsPart Fits spell read → ((x : X) → Fits x → IsPart (λ z. ((first z ≡ x) × Known z) × Rest z) spell_more (read_more x))
    → IsPart (λ z. Known z × (Fits (first z) × Rest z)) (λ z. spell (first z) ++ spell_more z) (then_read read read_more)
then_known Fits spell read first Known Rest spell_more read_more part more =
    known_before (λ rest. Unit {0}) Fits spell read first Known Rest spell_more read_more (part_before Fits spell read part)
    (λ z rest h. tt) more

-- many rows that pass a test, and what follows them, which begins with a row that fails it
pub many_known : {X Z : Type 0} (FitsAt : ℕ → X → Type 0) (line : X → Row) (test : Row → Bool) (one : ℕ → Row → Option X) (next : X → ℕ)
    (low : ℕ)
    (values : Z → List X) (Known Rest : Z → Type 0) (spell_more : Z → Rows) (read_more : List X → Rows → Result (Z × Rows) Rows)
    → AreRows FitsAt line test one → ((z : Z) → Rest z → BeginsOther test (spell_more z))
    → ((xs : List X) → AreFit FitsAt next low xs → IsPart (λ z. ((values z ≡ xs) × Known z) × Rest z) spell_more (read_more xs))
    → IsPart (λ z. Known z × (AreFit FitsAt next low (values z) × Rest z)) (λ z. map line (values z) ++ spell_more z)
    (then_read (many_at test one next low) read_more)
many_known FitsAt line test one next low values Known Rest spell_more read_more law other more =
    known_before (BeginsOther test) (AreFit FitsAt next low) (map line) (many_at test one next low) values Known Rest spell_more read_more
    (many_before FitsAt line test one next law low) (λ z rest h. other_then test (spell_more z) rest (other z h)) more

-- nothing more, and all of the value is known
pub last_known : {Z : Type 0} (w : Z) (Known : Z → Type 0) → ((z : Z) → Known z → w ≡ z) → Known w
    → IsPart (λ z. Known z × Unit {0}) (λ z. []) (λ rows. Ok (w, rows))
last_known w Known is known =
    part_as (λ z. z ≡ w) (λ z. Known z × Unit {0}) (λ z. []) (λ z. []) (λ rows. Ok (w, rows))
    (λ z e. (subst Known (sym e) known, tt)) (λ z h. sym (is z h.0)) (λ z h. refl) (last_part w)
