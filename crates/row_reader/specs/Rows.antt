-- A text as rows of parts.
use Rattle.std.specs.Prelude.{◌≡◌, ℕ, Bool, false, ◌==◌, List, [], ◌∷◌}
use Rattle.std.specs.List.{slice_split, AllByRecursion}
use Rattle.std.specs.Str.{bytes_eq}

-- a row is the list of its parts
abbrev pub Row : Type 0
Row = List (List ℕ)

-- rows in order
abbrev pub Rows : Type 0
Rows = List (List (List ℕ))

-- whether a byte is a line feed
abbrev pub is_feed : ℕ → Bool
is_feed b = b == 10

-- whether a byte is a space
abbrev pub is_blank : ℕ → Bool
is_blank b = b == 32

-- The rows of the pieces between line feeds. Behind the last line feed stands nothing, or a row
-- without a line feed of its own, which has no parts.
abbrev pub rows_of_pieces : List (List ℕ) → Rows
rows_of_pieces [] = []
rows_of_pieces ([] ∷ []) = []
rows_of_pieces ((b ∷ bs) ∷ []) = [] ∷ []
rows_of_pieces (piece ∷ next ∷ pieces) = slice_split is_blank piece ∷ rows_of_pieces (next ∷ pieces)

-- the rows of a text: it is cut at each line feed, and each row at each space
unfoldable pub rows_of : List ℕ → Rows
rows_of text = rows_of_pieces (slice_split is_feed text)

-- a part without a space or a line feed
abbrev pub IsPlain : List ℕ → Type 0
IsPlain part = AllByRecursion (λ b. (is_feed b ≡ false) × (is_blank b ≡ false)) part

-- a row that can be told from its text: it has a part, and its parts are plain
abbrev pub IsPlainRow : Row → Type 0
IsPlainRow [] = ⊥
IsPlainRow (part ∷ parts) = AllByRecursion IsPlain (part ∷ parts)

-- whether a row has this name, which is its first part
abbrev pub is_named : List ℕ → Row → Bool
is_named name [] = false
is_named name (part ∷ parts) = bytes_eq part name

-- whether the first of some rows passes a test
abbrev pub first_passes : (Row → Bool) → Rows → Bool
first_passes test [] = false
first_passes test (row ∷ rows) = test row

-- whether the first of some rows has this name
abbrev pub begins_named : List ℕ → Rows → Bool
begins_named name rows = first_passes (is_named name) rows
