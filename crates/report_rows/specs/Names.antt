-- The words of a report for what is one of a few.
use Rattle.std.specs.Prelude.{ℕ, Bool, true, false, List, [], ◌∷◌, codes}

abbrev pub bit_name : Bool → List ℕ
bit_name true = codes "1"
bit_name false = codes "0"

-- the counts, in the order of their rows
abbrev pub count_names : List (List ℕ)
count_names =
    codes "retired" ∷ codes "loads" ∷ codes "stores" ∷ codes "cas" ∷ codes "swapped"
    ∷ codes "transactions" ∷ codes "exclusive" ∷ codes "owned" ∷ codes "upgrades" ∷ codes "flushes"
    ∷ codes "wait-fetch" ∷ codes "wait-operand" ∷ codes "wait-access" ∷ []
