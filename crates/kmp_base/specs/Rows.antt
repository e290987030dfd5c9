-- Rows of text. A row is a list of parts: one space stands between them, and one line feed behind the last.
use Rattle.std.specs.Prelude.{ℕ, List, [], ◌∷◌, ◌++◌, codes, flat_map}

-- a text, and further parts of its row behind it
abbrev pub row_behind : List ℕ → List (List ℕ) → List ℕ
row_behind text [] = text ++ codes "\n"
row_behind text (part ∷ parts) = row_behind (text ++ codes " " ++ part) parts

-- the text of one row
abbrev pub row_text : List (List ℕ) → List ℕ
row_text [] = codes "\n"
row_text (part ∷ parts) = row_behind part parts

-- the text of rows in order
abbrev pub text_of : List (List (List ℕ)) → List ℕ
text_of rows = flat_map row_text rows
