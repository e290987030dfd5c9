-- Where a text and a row are cut.
use Rattle.std.proofs.Common.{◌≡◌, ◌==◌, ℕ, suc, ◌+◌, ◌-◌, ◌≤◌, Bool, true, false, cond, List, [], ◌∷◌, ◌++◌, length, take, drop, Some}
use Rattle.std.proofs.Common.{None, refl, sym, ap, ◌∙◌, arith, min, append_assoc, take-append-drop, drop-cons}
use Rattle.std.specs.Prelude.{codes}
use Rattle.std.specs.List.{All, slice_split, onto_first, position}
use Rattle.std.proofs.lemmas.Bool.{eqb-true, ltb-false}
use Rattle.std.proofs.lemmas.Grind.{common_steps}
use Rattle.std.proofs.lemmas.List.{take_rest}
use Rattle.std.proofs.lemmas.List.Quantifiers.{position-Some}
use Rattle.std.proofs.lemmas.List.Sums.{fails_before_first}
use Rattle.std.proofs.lemmas.List.Splits.{slice_split_none, slice_split_at}
use Rattle.std_laws.proofs.OptionLaws.{cond_none_parts}
use Rattle.row_reader.specs.Rows.{Row, Rows, is_feed, is_blank, rows_of, rows_of_pieces}
use Rattle.row_reader.specs.Fields.{parts_of, part_at, ended, IsCutOff}

-- ---- the first index of a byte

-- what `&xs[i + 1..]` is
abbrev behind : ℕ → List ℕ → List ℕ
behind i xs = take (length xs - (i + 1)) (drop (i + 1) xs)

-- before its first index the byte doesn't stand
before_index : (p : ℕ → Bool) (xs : List ℕ) (i : ℕ) → position p xs ≡ Some i → All (λ b. p b ≡ false) (take i xs)
before_index p xs i e = λ k d lt.
    let at = position-Some p xs i d e in
    let fails = at.2 k (grind (arith, common_steps)) in
    grind (arith, common_steps)

index_splits : (c : ℕ) (xs : List ℕ) (i : ℕ) → position (λ b. b == c) xs ≡ Some i → xs ≡ take i xs ++ c ∷ behind i xs
index_splits c xs i e =
    let at = position-Some (λ b. b == c) xs i 0 e in
    let next : suc i ≡ i + 1 = omega arith in
    sym (take-append-drop i xs) ∙ ap (λ (t : List ℕ). take i xs ++ t) (
    drop-cons xs i 0 at.0
    ∙ ap (λ b. b ∷ drop (suc i) xs) (eqb-true _ c at.1)
    ∙ ap (λ n. c ∷ drop n xs) next
    ∙ ap (λ (t : List ℕ). c ∷ t) (sym (take_rest xs (i + 1)))
    )

-- without an index the byte doesn't stand at all
no_index : (p : ℕ → Bool) (xs : List ℕ) → position p xs ≡ None → All (λ b. p b ≡ false) xs
no_index p xs e = λ k d lt.
    let le = ltb-false _ _ (cond_none_parts _ _ None e).0 in
    fails_before_first p xs k d (omega arith)

-- ---- pieces

abbrev pieces_after : Bool → ℕ → List (List ℕ) → List (List ℕ)
pieces_after b x pieces = cond b ([] ∷ pieces) (onto_first x pieces)

pieces_onto : (b : Bool) (x : ℕ) (pieces : List (List ℕ)) → (first : List ℕ) × (others : List (List ℕ))
    × (pieces_after b x pieces ≡ first ∷ others)
pieces_onto true x pieces = ([], pieces, refl)
pieces_onto false x [] = (x ∷ [], [], refl)
pieces_onto false x (piece ∷ pieces) = (x ∷ piece, pieces, refl)

-- there is a first piece
pieces_of : (p : ℕ → Bool) (xs : List ℕ) → (first : List ℕ) × (others : List (List ℕ)) × (slice_split p xs ≡ first ∷ others)
pieces_of p [] = ([], [], refl)
pieces_of p (x ∷ xs) = pieces_onto (p x) x (slice_split p xs)

-- ---- rows

-- a line without a line feed, and one behind it, are the first row
pub first_row : (line rest : List ℕ) → All (λ b. is_feed b ≡ false) line → rows_of (line ++ 10 ∷ rest) ≡ parts_of line ∷ rows_of rest
unfolding rows_of
first_row line rest free =
    let p = pieces_of is_feed rest in
    ap rows_of_pieces (slice_split_at is_feed line 10 rest free refl ∙ ap (λ r. line ∷ r) p.2)
    ∙ ap (λ r. parts_of line ∷ rows_of_pieces r) (sym p.2)

pub row_is : (text : List ℕ) (i : ℕ) → position is_feed text ≡ Some i → rows_of text ≡ parts_of (take i text) ∷ rows_of (behind i text)
row_is text i e = ap rows_of (index_splits 10 text i e) ∙ first_row (take i text) (behind i text) (before_index is_feed text i e)

pub text_is_whole : (text : List ℕ) (i : ℕ) → position is_feed text ≡ Some i → text ≡ take i text ++ codes "\n" ++ behind i text
text_is_whole text i e = index_splits 10 text i e ∙ sym (append_assoc (take i text) (codes "\n") (behind i text))

-- the row of nothing, or none
last_piece : (piece : List ℕ) → IsCutOff (rows_of_pieces (piece ∷ [])) × (length (rows_of_pieces (piece ∷ [])) ≡ min 1 (length piece))
last_piece [] = (tt, refl)
last_piece (b ∷ bs) = (tt, omega arith)

-- no whole row is left, and at most one
pub cut_none : (text : List ℕ) → position is_feed text ≡ None → IsCutOff (rows_of text) × (length (rows_of text) ≡ min 1 (length text))
unfolding rows_of
cut_none text e = rw (slice_split_none is_feed text (no_index is_feed text e)) (last_piece text)

-- a text that isn't empty has a row
first_piece : (b : Bool) (x : ℕ) (first : List ℕ) (others : List (List ℕ)) → (row : Row) × (more : Rows)
    × (rows_of_pieces (pieces_after b x (first ∷ others)) ≡ row ∷ more)
first_piece true x first others = (parts_of [], rows_of_pieces (first ∷ others), refl)
first_piece false x first [] = ([], [], refl)
first_piece false x first (other ∷ others) = (parts_of (x ∷ first), rows_of_pieces (other ∷ others), refl)

pub rows_some : (x : ℕ) (xs : List ℕ) → (row : Row) × (more : Rows) × (rows_of (x ∷ xs) ≡ row ∷ more)
unfolding rows_of
rows_some x xs =
    let p = pieces_of is_feed xs in
    let q = first_piece (is_feed x) x p.0 p.1 in
    (q.0, q.1, ap (λ r. rows_of_pieces (pieces_after (is_feed x) x r)) p.2 ∙ q.2)

pub rows_empty : rows_of [] ≡ []
unfolding rows_of
rows_empty = refl

pub no_rows : (text : List ℕ) → length text ≤ 0 → length (rows_of text) ≡ 0
no_rows [] h = ap length rows_empty
no_rows (x ∷ xs) h = absurd (omega arith)

-- ---- parts

pub part_is : (row : List ℕ) (i : ℕ) → position is_blank row ≡ Some i → part_at (parts_of row) ≡ Some (take i row, parts_of (behind i row))
part_is row i e =
    ap (λ r. part_at (parts_of r)) (index_splits 32 row i e)
    ∙ ap part_at (slice_split_at is_blank (take i row) 32 (behind i row) (before_index is_blank row i e) refl)

pub last_part_is : (row : List ℕ) → position is_blank row ≡ None → part_at (parts_of row) ≡ Some (row, [])
last_part_is row e = ap part_at (slice_split_none is_blank row (no_index is_blank row e))

-- a row that hasn't ended has a part
pub not_ended : {X : Type 0} (x : X) (row : List ℕ) → ended x (parts_of row) ≡ None
not_ended x row = let p = pieces_of is_blank row in ap (ended x) p.2
