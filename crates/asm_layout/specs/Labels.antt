-- The labels of a source and their addresses.
use Rattle.std.specs.Prelude.{◌≡◌, ℕ, List, [], ◌∷◌, ◌++◌}
use Rattle.std.specs.Borrow.{Bor}
use Rattle.std.specs.BTreeMap.{BTreeMap, get_by}
use Rattle.std.specs.Cmp.Lexicographic.{slice_cmp}
use Rattle.std.specs.Ordering.{nat_cmp}
use Rattle.asm_parse.specs.declared.statement.Body.{Body}
use Rattle.asm_parse.specs.declared.statement.Body.TheVariants.{Label}
use Rattle.asm_parse.specs.declared.statement.Statement.{Statement}
use Rattle.kmp_base.specs.Names.{named}
use Rattle.asm_layout.specs.Places.{address_at, place_behind, code_end}

-- labels and their addresses
abbrev pub Addresses : Type 0
Addresses = List (List ℕ × ℕ)

-- the label of a statement at an address
abbrev pub label_at : ℕ → Body → Addresses
label_at address (Label name) = (name, address) ∷ []
label_at address other = []

-- The labels of statements that stand behind others, in a source whose code ends at `end`.
unfoldable pub labels_from : ℕ → List Statement → List Statement → Addresses
labels_from end before [] = []
labels_from end before (s ∷ ss) =
    label_at (address_at (place_behind end before)) s.body ++ labels_from end (before ++ s ∷ []) ss

-- The labels of a source.
abbrev pub labels_of : List Statement → Addresses
labels_of ss = labels_from (code_end ss) [] ss

-- A map holds the labels: it gives each name the address that stands first for it, and no other name one.
abbrev pub HoldsLabels : BTreeMap (Bor (List ℕ)) ℕ → Addresses → Type 0
HoldsLabels map labels = (name : List ℕ) → get_by (λ key. slice_cmp nat_cmp name key.now) map ≡ named labels name
