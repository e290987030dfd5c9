-- Rows of plain parts can be told from their text.
use Rattle.std.proofs.Common.{◌≡◌, ℕ, false, List, [], ◌∷◌, ◌++◌, refl, sym, ap, subst, ◌∙◌, append_assoc}
use Rattle.std.specs.Prelude.{codes}
use Rattle.std.specs.List.{slice_split, All, AllByRecursion, join_with_byte}
use Rattle.std.proofs.lemmas.List.Splits.{slice_split_at, slice_split_none, join_with_byte-slice_split}
use Rattle.std.proofs.lemmas.List.Elements.{All-from_recursion, All-nil, All-cons, All-append}
use Rattle.kmp_base.specs.Rows.{row_behind, row_text, text_of}
use Rattle.row_reader.specs.Rows.{Row, Rows, is_feed, is_blank, rows_of_pieces, rows_of, IsPlain, IsPlainRow}
use Rattle.row_reader.specs.Fields.{parts_of}
use Rattle.row_reader.proofs.CutLaws.{first_row, rows_empty}

-- ---- lines

-- the text of a row but for its line feed
abbrev line_of : Row → List ℕ
line_of row = join_with_byte 32 row

behind_is : (text part : List ℕ) (parts : Row) → row_behind (text ++ part) parts ≡ (text ++ line_of (part ∷ parts)) ++ codes "\n"
behind_is text part [] = refl
behind_is text part (next ∷ parts) =
    let line = line_of (next ∷ parts) in
    behind_is (text ++ part ++ codes " ") next parts
    ∙ ap (λ (t : List ℕ). t ++ codes "\n") (append_assoc (text ++ part) (codes " ") line ∙ append_assoc text part (codes " " ++ line))

row_text_is : (row : Row) → row_text row ≡ line_of row ++ codes "\n"
row_text_is [] = refl
row_text_is (part ∷ parts) = behind_is [] part parts

-- ---- from rows to their text and back

abbrev NoFeed : List ℕ → Type 0
NoFeed bytes = All (λ b. is_feed b ≡ false) bytes

abbrev NoBlank : List ℕ → Type 0
NoBlank bytes = All (λ b. is_blank b ≡ false) bytes

each_plain : (part : List ℕ) → IsPlain part → All (λ b. (is_feed b ≡ false) × (is_blank b ≡ false)) part
each_plain part h = All-from_recursion (λ b. (is_feed b ≡ false) × (is_blank b ≡ false)) part h

no_feed : (part : List ℕ) → IsPlain part → NoFeed part
no_feed part h = λ k d lt. (each_plain part h k d lt).0

no_blank : (part : List ℕ) → IsPlain part → NoBlank part
no_blank part h = λ k d lt. (each_plain part h k d lt).1

line_no_feed : (row : Row) → AllByRecursion IsPlain row → NoFeed (line_of row)
line_no_feed [] h = All-nil (λ b. is_feed b ≡ false)
line_no_feed (part ∷ []) h = no_feed part h.0
line_no_feed (part ∷ next ∷ parts) h =
    let line = line_of (next ∷ parts) in
    All-append (λ b. is_feed b ≡ false) part (32 ∷ line) (no_feed part h.0)
    (All-cons (λ b. is_feed b ≡ false) 32 line refl (line_no_feed (next ∷ parts) h.1))

-- the parts of a row's line are the row
parts_again : (row : Row) → IsPlainRow row → parts_of (line_of row) ≡ row
parts_again [] h = absurd h
parts_again (part ∷ []) h = slice_split_none is_blank part (no_blank part h.0)
parts_again (part ∷ next ∷ parts) h =
    slice_split_at is_blank part 32 (line_of (next ∷ parts)) (no_blank part h.0) refl
    ∙ ap (λ (r : Row). part ∷ r) (parts_again (next ∷ parts) h.1)

plain_parts : (row : Row) → IsPlainRow row → AllByRecursion IsPlain row
plain_parts [] h = tt
plain_parts (part ∷ parts) h = h

row_again : (row : Row) (rest : List ℕ) → IsPlainRow row → rows_of (row_text row ++ rest) ≡ row ∷ rows_of rest
row_again row rest h =
    ap rows_of (ap (λ (t : List ℕ). t ++ rest) (row_text_is row) ∙ append_assoc (line_of row) (codes "\n") rest)
    ∙ first_row (line_of row) rest (line_no_feed row (plain_parts row h))
    ∙ ap (λ (r : Row). r ∷ rows_of rest) (parts_again row h)

-- the rows of the text of rows are these rows
pub rows_again : (rows : Rows) → AllByRecursion IsPlainRow rows → rows_of (text_of rows) ≡ rows
rows_again [] h = rows_empty
rows_again (row ∷ rows) h = row_again row (text_of rows) h.0 ∙ ap (λ (r : Rows). row ∷ r) (rows_again rows h.1)

-- ---- from a text to its rows and back

row_back : (line : List ℕ) → row_text (parts_of line) ≡ line ++ codes "\n"
row_back line = row_text_is (parts_of line) ∙ ap (λ (t : List ℕ). t ++ codes "\n") (join_with_byte-slice_split 32 line)

pieces_back : (pieces : List (List ℕ)) → AllByRecursion IsPlainRow (rows_of_pieces pieces)
    → join_with_byte 10 pieces ≡ text_of (rows_of_pieces pieces)
pieces_back [] h = refl
pieces_back ([] ∷ []) h = refl
pieces_back ((b ∷ bs) ∷ []) h = absurd h.0
pieces_back (piece ∷ next ∷ pieces) h =
    sym (append_assoc piece (codes "\n") (join_with_byte 10 (next ∷ pieces)))
    ∙ ap (λ (t : List ℕ). t ++ join_with_byte 10 (next ∷ pieces)) (sym (row_back piece))
    ∙ ap (λ (t : List ℕ). row_text (parts_of piece) ++ t) (pieces_back (next ∷ pieces) h.1)

-- a text is the text of rows of plain parts exactly where these are its rows
pub text_is : (text : List ℕ) (rows : Rows) → AllByRecursion IsPlainRow rows → rows_of text ≡ rows → text ≡ text_of rows
unfolding rows_of
text_is text rows plain is =
    sym (join_with_byte-slice_split 10 text)
    ∙ pieces_back (slice_split is_feed text) (subst (AllByRecursion IsPlainRow) (sym is) plain)
    ∙ ap text_of is

pub rows_are : (text : List ℕ) (rows : Rows) → AllByRecursion IsPlainRow rows → text ≡ text_of rows → rows_of text ≡ rows
rows_are text rows plain is = ap rows_of is ∙ rows_again rows plain
