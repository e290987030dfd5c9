-- Rows one after another, and calls that write them.
use Rattle.std.proofs.Common.{◌≡◌, ℕ, zero, suc, ◌+◌, ◌<◌, List, [], ◌∷◌, ◌++◌, length, get_or, take, map, refl, sym, ◌∙◌, ap, arith}
use Rattle.std.proofs.Common.{append_assoc, add-one}
use Rattle.std.specs.Prelude.{Option, Ok, Err}
use Rattle.std.specs.List.{flat_map}
use Rattle.std.proofs.lemmas.List.{append-nil}
use Rattle.std.proofs.lemmas.List.Concat.{flat_map-append}
use Rattle.std.proofs.lemmas.List.Folds.{flat_map-map}
use Rattle.kmp_base.specs.Rows.{row_text, text_of}
use Rattle.kmp_base.specs.Streams.{Writes}
use Rattle.kmp_base.proofs.StreamLaws.{writes_as, writes_then, writes_stop, writes_next, writes_cut}
use Rattle.timetable.specs.declared.CoreEnd.{CoreEnd}
use Rattle.timetable.specs.declared.rows.TimeRow.{TimeRow}
use Rattle.report_rows.specs.Ends.{end_value}
use Rattle.report_rows.specs.Rows.{timed_row, rows_of_each, core_rows, timetable_rows}

pub text_of-append : (a b : List (List (List ℕ))) → text_of (a ++ b) ≡ text_of a ++ text_of b
text_of-append a b = flat_map-append row_text a b

text_of-map : {X : Type 0} (f : X → List (List ℕ)) (xs : List X) → text_of (map f xs) ≡ flat_map (λ x. row_text (f x)) xs
text_of-map f xs = flat_map-map row_text f xs

-- the texts of rows, one after another
pub texts_are : (texts : List (List ℕ)) (rows : List (List (List ℕ))) → texts ≡ map row_text rows
    → flat_map (λ text. text) texts ≡ text_of rows
texts_are texts rows is = ap (flat_map (λ (text : List ℕ). text)) is ∙ flat_map-map (λ (text : List ℕ). text) row_text rows

-- One turn of a loop that writes a row for each item, and the turn that fails.

pub rows_next : {K T U E X : Type 0} {held : K → Option (List ℕ)} {faults : K → ℕ} {old mid new : K} {value : T} {next : U} {piece : List ℕ}
    (f : X → List (List ℕ)) (xs : List X) (i : ℕ) (d : X) → i < length xs → piece ≡ row_text (f (get_or xs i d))
    → Writes {E = E} held faults old mid (Ok value) (text_of (map f (take i xs))) → Writes {E = E} held faults mid new (Ok next) piece
    → Writes {E = E} held faults old new (Ok next) (text_of (map f (take (i + 1) xs)))
rows_next {X} f xs i d below is before turn =
    writes_as (sym (text_of-map f (take (i + 1) xs)))
    (writes_next (λ (x : X). row_text (f x)) xs i d below is (writes_as (text_of-map f (take i xs)) before) turn)

pub rows_cut : {K T U E X : Type 0} {held : K → Option (List ℕ)} {faults : K → ℕ} {old mid new : K} {value : T} {fault : E} {piece : List ℕ}
    (f : X → List (List ℕ)) (xs : List X) (i : ℕ) (d : X) → i < length xs → piece ≡ row_text (f (get_or xs i d))
    → Writes {E = E} held faults old mid (Ok value) (text_of (map f (take i xs))) → Writes {T = U} held faults mid new (Err fault) piece
    → Writes {T = U} held faults old new (Err fault) (text_of (map f xs))
rows_cut {X} f xs i d below is before turn =
    writes_as (sym (text_of-map f xs))
    (writes_cut (λ (x : X). row_text (f x)) xs i d below is (writes_as (text_of-map f (take i xs)) before) turn)

pub one_row : (row : List (List ℕ)) → row_text row ≡ text_of (row ∷ [])
one_row row = sym (append-nil (row_text row))

-- Rows of each thing by its number.

module _ {X : Type 0} (f : ℕ → X → List (List (List ℕ))) where
  each_take : (n i : ℕ) (xs : List X) (d : X) → i < length xs
      → rows_of_each f n (take (suc i) xs) ≡ rows_of_each f n (take i xs) ++ f (n + i) (get_or xs i d)
  each_take n i [] d below = absurd (omega arith)
  each_take n zero (y ∷ ys) d below =
      let same : n ≡ n + 0 = omega arith in
      append-nil (f n y) ∙ ap (λ k. f k y) same
  each_take n (suc i) (y ∷ ys) d below =
      let same : n + 1 + i ≡ n + suc i = omega arith in
      ap (λ rows. f n y ++ rows)
      (each_take (n + 1) i ys d (omega arith) ∙ ap (λ k. rows_of_each f (n + 1) (take i ys) ++ f k (get_or ys i d)) same)
      ∙ sym (append_assoc (f n y) (rows_of_each f (n + 1) (take i ys)) (f (n + suc i) (get_or ys i d)))

  -- some rows follow
  each_rest : (n i : ℕ) (xs : List X) → (rest : List (List (List ℕ))) × (rows_of_each f n xs ≡ rows_of_each f n (take i xs) ++ rest)
  each_rest n zero xs = (rows_of_each f n xs, refl)
  each_rest n (suc i) [] = ([], refl)
  each_rest n (suc i) (y ∷ ys) =
      let later = each_rest (n + 1) i ys in
      (later.0, ap (λ rows. f n y ++ rows) later.1 ∙ sym (append_assoc (f n y) (rows_of_each f (n + 1) (take i ys)) later.0))

  -- the text up to a thing, and with it
  each_text : (i : ℕ) (xs : List X) (d : X) → i < length xs
      → text_of (rows_of_each f 0 (take i xs)) ++ text_of (f i (get_or xs i d)) ≡ text_of (rows_of_each f 0 (take (i + 1) xs))
  each_text i xs d below =
      let same : 0 + i ≡ i = omega arith in
      sym (ap (λ n. text_of (rows_of_each f 0 (take n xs))) (add-one i)
      ∙ ap text_of (each_take 0 i xs d below ∙ ap (λ n. rows_of_each f 0 (take i xs) ++ f n (get_or xs i d)) same)
      ∙ text_of-append (rows_of_each f 0 (take i xs)) (f i (get_or xs i d)))

  each_text_rest : (i : ℕ) (xs : List X) → (rest : List ℕ)
      × (text_of (rows_of_each f 0 (take i xs)) ++ rest ≡ text_of (rows_of_each f 0 xs))
  each_text_rest i xs =
      let more = each_rest 0 i xs in
      (text_of more.0, sym (ap text_of more.1 ∙ text_of-append (rows_of_each f 0 (take i xs)) more.0))

-- One turn of a loop that writes the rows of each thing, and the turn that fails.

pub each_next : {K T U E X : Type 0} {held : K → Option (List ℕ)} {faults : K → ℕ} {old mid new : K} {value : T} {next : U} {piece : List ℕ}
    (f : ℕ → X → List (List (List ℕ))) (xs : List X) (i : ℕ) (d : X) → i < length xs → piece ≡ text_of (f i (get_or xs i d))
    → Writes {E = E} held faults old mid (Ok value) (text_of (rows_of_each f 0 (take i xs)))
    → Writes {E = E} held faults mid new (Ok next) piece
    → Writes {E = E} held faults old new (Ok next) (text_of (rows_of_each f 0 (take (i + 1) xs)))
each_next f xs i d below is before turn =
    writes_as (each_text f i xs d below) (writes_then before (writes_as is turn))

pub each_cut : {K T U E X : Type 0} {held : K → Option (List ℕ)} {faults : K → ℕ} {old mid new : K} {value : T} {fault : E} {piece : List ℕ}
    (f : ℕ → X → List (List (List ℕ))) (xs : List X) (i : ℕ) (d : X) → i < length xs → piece ≡ text_of (f i (get_or xs i d))
    → Writes {E = E} held faults old mid (Ok value) (text_of (rows_of_each f 0 (take i xs)))
    → Writes {T = U} held faults mid new (Err fault) piece
    → Writes {T = U} held faults old new (Err fault) (text_of (rows_of_each f 0 xs))
each_cut f xs i d below is before turn =
    let rest = each_text_rest f (i + 1) xs in
    writes_as rest.1 (writes_stop rest.0 (writes_as (each_text f i xs d below) (writes_then before (writes_as is turn))))

-- the rows of things that are made of others
pub each_of_map : {X Y : Type 0} (f : ℕ → Y → List (List (List ℕ))) (g : X → Y) (n : ℕ) (xs : List X)
    → rows_of_each (λ k x. f k (g x)) n xs ≡ rows_of_each f n (map g xs)
each_of_map f g n [] = refl
each_of_map f g n (x ∷ xs) = ap (λ rows. f n (g x) ++ rows) (each_of_map f g (n + 1) xs)

-- the ends of cores, and their timetables

abbrev pub end_rows : ℕ → CoreEnd → List (List (List ℕ))
end_rows core ended = core_rows core (end_value ended)

abbrev pub times_of : ℕ → CoreEnd → List (List (List ℕ))
times_of core ended = timetable_rows core ended.rows.rows

-- the row of one instruction
abbrev pub instruction_rows : ℕ → ℕ → TimeRow → List (List (List ℕ))
instruction_rows core n row = timed_row core n row ∷ []
