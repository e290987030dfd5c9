-- Reading the parts of a row from the front: a value and the parts behind it, or none.
use Rattle.std.specs.Prelude.{◌≡◌, ℕ, List, [], ◌∷◌, Option, Some, None}
use Rattle.std.specs.List.{slice_split}
use Rattle.row_reader.specs.Rows.{Row, Rows, is_blank}

-- one step and then another, which knows the value of the first; none where either has none
infixl 10 ◌>>=◌
abbrev pub ◌>>=◌ : {A B : Type 0} → Option A → (A → Option B) → Option B
(Some x) >>= f = f x
None >>= f = None

-- what a function returned, seen by view, is what reading gives
abbrev pub Finds : {X Y : Type 0} → (X → Y) → Option X → Option Y → Type 0
Finds view (Some x) read = read ≡ Some (view x)
Finds view None read = read ≡ None

-- the parts of a row's text, without its line feed
abbrev pub parts_of : List ℕ → Row
parts_of row = slice_split is_blank row

-- the parts that are left of a row, none where it has ended
abbrev pub parts_left : Option (List ℕ) → Row
parts_left None = []
parts_left (Some row) = parts_of row

-- the next part, and the parts behind it
abbrev pub part_at : Row → Option (List ℕ × Row)
part_at [] = None
part_at (part ∷ parts) = Some (part, parts)

-- a value that is the last of its row
abbrev pub ended : {X : Type 0} → X → Row → Option X
ended x [] = Some x
ended x (part ∷ parts) = None

-- rows of which the first isn't whole, or none
abbrev pub IsCutOff : Rows → Type 0
IsCutOff [] = Unit {0}
IsCutOff ([] ∷ more) = Unit {0}
IsCutOff ((part ∷ parts) ∷ more) = ⊥

-- the value of a part, and the parts behind it
abbrev pub with_rest : {X : Type 0} → Option X → Row → Option (X × Row)
with_rest (Some x) parts = Some (x, parts)
with_rest None parts = None

-- the value that one reads of the next part, and the parts behind it
abbrev pub field_at : {X : Type 0} → (List ℕ → Option X) → Row → Option (X × Row)
field_at one [] = None
field_at one (part ∷ parts) = with_rest (one part) parts
