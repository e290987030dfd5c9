-- A part that comes many times for each of some numbers, and what follows it.
use Rattle.std.proofs.Common.{◌≡◌, ℕ, zero, suc, ◌+◌, ◌<◌, ◌≤◌, Bool, false, List, [], ◌∷◌, ◌++◌, map, Option, Result, Ok, Err, refl, sym}
use Rattle.std.proofs.Common.{ap}
use Rattle.std.proofs.Common.{◌∙◌, append_assoc, arith}
use Rattle.std.specs.List.{range_with_len}
use Rattle.kmp_base.specs.Bind.{◌>>=◌}
use Rattle.row_reader.specs.Rows.{Row, Rows}
use Rattle.row_reader.specs.Reading.{many_at, each_at}
use Rattle.row_reader.specs.Starts.{IsPart, AreFit, EachFits, each_spell}
use Rattle.row_reader.proofs.PartLaws.{then_read}
use Rattle.row_reader.proofs.ManyLaws.{part_as, AreRows, BeginsOther, many_known}

-- ---- reading in other steps

-- the same part, read in other steps
read_as : {X : Type 0} (Fits : X → Type 0) (spell : X → Rows) (read read' : Rows → Result (X × Rows) Rows)
    → ((rows : Rows) → read' rows ≡ read rows) → IsPart Fits spell read → IsPart Fits spell read'
read_as Fits spell read read' same part = record {
  takes = λ rows rest x e. part.takes rows rest x (sym (same rows) ∙ e);
  again = λ x rest fits. same (spell x ++ rest) ∙ part.again x rest fits;
  stops = λ rows stuck e. part.stops rows stuck (sym (same rows) ∙ e);
  some = part.some;
}

-- a value in front of others
abbrev onto : {X : Type 0} → X → List X × Rows → Result (List X × Rows) Rows
onto x q = Ok (x ∷ q.0, q.1)

onto_as : {X Z : Type 0} (x : X) (others : Result (List X × Rows) Rows) (read_more : List X → Rows → Result (Z × Rows) Rows)
    → ((others >>= onto x) >>= λ q. read_more q.0 q.1) ≡ (others >>= λ q. read_more (x ∷ q.0) q.1)
onto_as x (Ok q) read_more = refl
onto_as x (Err stuck) read_more = refl

-- a first value, others, and what follows them
steps_as : {X Z : Type 0} (first : Result (X × Rows) Rows) (each : Rows → Result (List X × Rows) Rows)
    (read_more : List X → Rows → Result (Z × Rows) Rows)
    → ((first >>= λ p. each p.1 >>= onto p.0) >>= λ q. read_more q.0 q.1) ≡ (first >>= λ p. each p.1 >>= λ q. read_more (p.0 ∷ q.0) q.1)
steps_as (Err stuck) each read_more = refl
steps_as (Ok p) each read_more = onto_as p.0 (each p.1) read_more

-- ---- lists of lists, by the first

abbrev first_of : {X : Type 0} → List (List X) → List X
first_of [] = []
first_of (xs ∷ more) = xs

abbrev rest_of : {X : Type 0} → List (List X) → List (List X)
rest_of [] = []
rest_of (xs ∷ more) = more

-- there is a first one
abbrev HasFirst : {X : Type 0} → List (List X) → Type 0
HasFirst xss = xss ≡ first_of xss ∷ rest_of xss

parts_to : {X : Type 0} (xss : List (List X)) (xs : List X) (yss : List (List X)) → xss ≡ xs ∷ yss
    → (rest_of xss ≡ yss) × ((first_of xss ≡ xs) × HasFirst xss)
parts_to [] xs yss e = cc
parts_to (zs ∷ zss) xs yss e = (ap rest_of e, (ap first_of e, refl))

parts_from : {X : Type 0} (xss : List (List X)) (xs : List X) (yss : List (List X)) → rest_of xss ≡ yss → first_of xss ≡ xs → HasFirst xss
    → xss ≡ xs ∷ yss
parts_from xss xs yss rest first has = has ∙ ap (λ l. l ∷ rest_of xss) first ∙ ap (λ l. xs ∷ l) rest

-- ---- many for each

-- Rows that pass the test of a number spell values; those of a greater number, below a limit, fail it.
module _ {X : Type 0} (FitsAt : ℕ → ℕ → X → Type 0) (line : ℕ → X → Row) (test : ℕ → Row → Bool) (one : ℕ → ℕ → Row → Option X)
    (next : X → ℕ)
    (law : (key : ℕ) → AreRows (FitsAt key) (line key) (test key) (one key)) (limit : ℕ)
    (apart : (a b : ℕ) (x : X) → a < b → b < limit → test a (line b x) ≡ false) where
  abbrev Fits : ℕ → List X → Type 0
  Fits key xs = AreFit (FitsAt key) next 0 xs

  abbrev spell : ℕ → List X → Rows
  spell key xs = map (line key) xs

  abbrev read : ℕ → Rows → Result (List X × Rows) Rows
  read key = many_at (test key) (one key) next 0

  -- the rows of greater numbers, and what follows them, begin with none that passes the test of a number
  begins_other : (a first n : ℕ) (xss : List (List X)) (rows : Rows) → a < first → first + n ≤ limit → BeginsOther (test a) rows
      → BeginsOther (test a) (each_spell spell (range_with_len first n) xss ++ rows)
  begins_other a first zero xss rows below within other = other
  begins_other a first (suc n) [] rows below within other = other
  begins_other a first (suc n) ([] ∷ xss) rows below within other = begins_other a (first + 1) n xss rows (omega arith) (omega arith) other
  begins_other a first (suc n) ((x ∷ xs) ∷ xss) rows below within other = record {
    first = line first x;
    others = (map (line first) xs ++ each_spell spell (range_with_len (first + 1) n) xss) ++ rows;
    are = refl;
    fails = apart a first x below (omega arith);
  }

  fits_to : (first n : ℕ) (xss : List (List X)) → EachFits Fits (range_with_len first (suc n)) xss
      → HasFirst xss × (Fits first (first_of xss) × EachFits Fits (range_with_len (first + 1) n) (rest_of xss))
  fits_to first n [] h = absurd h
  fits_to first n (xs ∷ xss) h = (refl, h)

  fits_from : (first n : ℕ) (xss : List (List X)) → HasFirst xss → Fits first (first_of xss)
      → EachFits Fits (range_with_len (first + 1) n) (rest_of xss) → EachFits Fits (range_with_len first (suc n)) xss
  fits_from first n [] has h others = cc
  fits_from first n (xs ∷ xss) has h others = (h, others)

  spell_same : (first n : ℕ) (xss : List (List X)) (rows : Rows) → HasFirst xss
      → spell first (first_of xss) ++ (each_spell spell (range_with_len (first + 1) n) (rest_of xss) ++ rows)
      ≡ each_spell spell (range_with_len first (suc n)) xss ++ rows
  spell_same first n [] rows has = cc
  spell_same first n (xs ∷ xss) rows has = sym (append_assoc (spell first xs) (each_spell spell (range_with_len (first + 1) n) xss) rows)

  nil_to : (xss : List (List X)) → xss ≡ [] → EachFits Fits [] xss
  nil_to [] e = tt
  nil_to (xs ∷ xss) e = cc

  nil_from : (xss : List (List X)) → EachFits Fits [] xss → xss ≡ []
  nil_from [] h = refl
  nil_from (xs ∷ xss) h = absurd h

  module _ {Z : Type 0} where
    -- what is known once the values of a first number are read
    abbrev KnownFirst : (Z → List (List X)) → (Z → Type 0) → List X → Z → Type 0
    KnownFirst values Rest xs z = ((first_of (values z) ≡ xs) × HasFirst (values z)) × Rest z

    abbrev read_behind : ℕ → ℕ → (List (List X) → Rows → Result (Z × Rows) Rows) → List X → Rows → Result (Z × Rows) Rows
    read_behind n first read_more xs rows = each_at read (range_with_len (first + 1) n) rows >>= λ q. read_more (xs ∷ q.0) q.1

    abbrev rows_behind : ℕ → ℕ → (Z → List (List X)) → (Z → Rows) → Z → Rows
    rows_behind n first values spell_more z = each_spell spell (range_with_len (first + 1) n) (rest_of (values z)) ++ spell_more z

    each_cons : (n first : ℕ) (values : Z → List (List X)) (Rest : Z → Type 0) (spell_more : Z → Rows)
        (read_more : List (List X) → Rows → Result (Z × Rows) Rows) → first + suc n ≤ limit
        → ((z : Z) → Rest z → BeginsOther (test first) (spell_more z))
        → ((xs : List X) → Fits first xs
        → IsPart (λ z. EachFits Fits (range_with_len (first + 1) n) (rest_of (values z)) × KnownFirst values Rest xs z)
        (rows_behind n first values spell_more) (read_behind n first read_more xs))
        → IsPart (λ z. EachFits Fits (range_with_len first (suc n)) (values z) × Rest z)
        (λ z. each_spell spell (range_with_len first (suc n)) (values z) ++ spell_more z)
        (λ rows. each_at read (range_with_len first (suc n)) rows >>= λ q. read_more q.0 q.1)
    each_cons n first values Rest spell_more read_more within other more =
        let Others : Z → Type 0 = λ z. EachFits Fits (range_with_len (first + 1) n) (rest_of (values z)) in
        read_as (λ z. EachFits Fits (range_with_len first (suc n)) (values z) × Rest z)
        (λ z. each_spell spell (range_with_len first (suc n)) (values z) ++ spell_more z)
        (then_read (read first) (read_behind n first read_more))
        (λ rows. each_at read (range_with_len first (suc n)) rows >>= λ q. read_more q.0 q.1)
        (λ rows. steps_as (read first rows) (each_at read (range_with_len (first + 1) n)) read_more)
        (part_as (λ z. HasFirst (values z) × (Fits first (first_of (values z)) × (Others z × Rest z)))
        (λ z. EachFits Fits (range_with_len first (suc n)) (values z) × Rest z)
        (λ z. spell first (first_of (values z)) ++ rows_behind n first values spell_more z)
        (λ z. each_spell spell (range_with_len first (suc n)) (values z) ++ spell_more z)
        (then_read (read first) (read_behind n first read_more))
        (λ z h. (fits_from first n (values z) h.0 h.1.0 h.1.1.0, h.1.1.1))
        (λ z h. (let f = fits_to first n (values z) h.0 in (f.0, (f.1.0, (f.1.1, h.1)))))
        (λ z h. spell_same first n (values z) (spell_more z) h.0)
        (many_known (FitsAt first) (line first) (test first) (one first) next 0 (λ z. first_of (values z)) (λ z. HasFirst (values z))
        (λ z. Others z × Rest z)
        (rows_behind n first values spell_more) (read_behind n first read_more) (law first)
        (λ z h. begins_other first (first + 1) n (rest_of (values z)) (spell_more z) (omega arith) (omega arith) (other z h.1))
        (λ xs fits.
        part_as (λ z. Others z × KnownFirst values Rest xs z)
        (λ z. ((first_of (values z) ≡ xs) × HasFirst (values z)) × (Others z × Rest z))
        (rows_behind n first values spell_more) (rows_behind n first values spell_more) (read_behind n first read_more xs)
        (λ z h. (h.1.0, (h.0, h.1.1))) (λ z h. (h.1.0, (h.0, h.1.1))) (λ z h. refl) (more xs fits))))

    each_many : (n first : ℕ) (values : Z → List (List X)) (Rest : Z → Type 0) (spell_more : Z → Rows)
        (read_more : List (List X) → Rows → Result (Z × Rows) Rows) → first + n ≤ limit
        → ((key : ℕ) (z : Z) → Rest z → BeginsOther (test key) (spell_more z))
        → ((xss : List (List X)) → EachFits Fits (range_with_len first n) xss
        → IsPart (λ z. (values z ≡ xss) × Rest z) spell_more (read_more xss))
        → IsPart (λ z. EachFits Fits (range_with_len first n) (values z) × Rest z)
        (λ z. each_spell spell (range_with_len first n) (values z) ++ spell_more z)
        (λ rows. each_at read (range_with_len first n) rows >>= λ q. read_more q.0 q.1)
    each_many zero first values Rest spell_more read_more within other more =
        part_as (λ z. (values z ≡ []) × Rest z) (λ z. EachFits Fits [] (values z) × Rest z) spell_more
        (λ z. each_spell spell [] (values z) ++ spell_more z) (read_more [])
        (λ z h. (nil_to (values z) h.0, h.1)) (λ z h. (nil_from (values z) h.0, h.1)) (λ z h. refl) (more [] tt)
    each_many (suc n) first values Rest spell_more read_more within other more =
        each_cons n first values Rest spell_more read_more within (other first)
        (λ xs fits.
        each_many n (first + 1) (λ z. rest_of (values z)) (KnownFirst values Rest xs) spell_more (λ yss. read_more (xs ∷ yss)) (omega arith)
        (λ key z h. other key z h.1)
        (λ yss h.
        part_as (λ z. (values z ≡ xs ∷ yss) × Rest z) (λ z. (rest_of (values z) ≡ yss) × KnownFirst values Rest xs z) spell_more spell_more
        (read_more (xs ∷ yss))
        (λ z k. (let p = parts_to (values z) xs yss k.0 in (p.0, (p.1, k.1))))
        (λ z k. (parts_from (values z) xs yss k.0 k.1.0.0 k.1.0.1, k.1.1)) (λ z k. refl)
        (more (xs ∷ yss) (fits, h))))

    -- so many rows for each of the first numbers, and what follows them, which begins with a row that fails each test
    pub each_many_known : (n : ℕ) (values : Z → List (List X)) (Known Rest : Z → Type 0) (spell_more : Z → Rows)
        (read_more : List (List X) → Rows → Result (Z × Rows) Rows) → n ≤ limit
        → ((key : ℕ) (z : Z) → Rest z → BeginsOther (test key) (spell_more z))
        → ((xss : List (List X)) → EachFits Fits (range_with_len 0 n) xss
        → IsPart (λ z. ((values z ≡ xss) × Known z) × Rest z) spell_more (read_more xss))
        → IsPart (λ z. Known z × (EachFits Fits (range_with_len 0 n) (values z) × Rest z))
        (λ z. each_spell spell (range_with_len 0 n) (values z) ++ spell_more z)
        (then_read (each_at read (range_with_len 0 n)) read_more)
    each_many_known n values Known Rest spell_more read_more within other more =
        let All : Z → Type 0 = λ z. EachFits Fits (range_with_len 0 n) (values z) in
        let rows_all : Z → Rows = λ z. each_spell spell (range_with_len 0 n) (values z) ++ spell_more z in
        part_as (λ z. All z × (Known z × Rest z)) (λ z. Known z × (All z × Rest z)) rows_all rows_all
        (then_read (each_at read (range_with_len 0 n)) read_more)
        (λ z h. (h.1.0, (h.0, h.1.1))) (λ z h. (h.1.0, (h.0, h.1.1))) (λ z h. refl)
        (each_many n 0 values (λ z. Known z × Rest z) spell_more read_more (omega arith) (λ key z h. other key z h.1)
        (λ xss fits.
        part_as (λ z. ((values z ≡ xss) × Known z) × Rest z) (λ z. (values z ≡ xss) × (Known z × Rest z)) spell_more spell_more
        (read_more xss)
        (λ z h. (h.0.0, (h.0.1, h.1))) (λ z h. ((h.0, h.1.0), h.1.1)) (λ z h. refl) (more xss fits)))
