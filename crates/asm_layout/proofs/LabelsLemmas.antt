-- Labels, one statement after the other.
use Rattle.std.proofs.Common.{◌≡◌, ℕ, ◌+◌, ◌<◌, true, false, cond, List, [], ◌∷◌, ◌++◌, length, take, get_or, Some, None, Bor, refl, sym}
use Rattle.std.proofs.Common.{ap, ◌∙◌, append_assoc}
use Rattle.std.specs.BTreeMap.{BTreeMap}
use Rattle.std.specs.Str.{bytes_eq}
use Rattle.std.proofs.lemmas.List.{append-nil}
use Rattle.std.proofs.lemmas.Slice.Eq.{bytes_eq-Decides}
use Rattle.std_laws.proofs.ListLaws.{take_more_read}
use Rattle.std_laws.proofs.OptionLaws.{cond_none_parts, cond_some-comm}
use Rattle.asm_parse.specs.declared.statement.Body.{Body}
use Rattle.asm_parse.specs.declared.statement.Body.TheVariants.{Label}
use Rattle.asm_parse.specs.declared.statement.Statement.{Statement}
use Rattle.kmp_base.specs.Names.{named}
use Rattle.asm_layout.specs.declared.place.Place.{Place}
use Rattle.asm_layout.specs.Places.{place_behind, address_at}
use Rattle.asm_layout.specs.Labels.{Addresses, label_at, labels_from, HoldsLabels}
use Rattle.asm_layout.specs.Passes.{twice_fault}

-- The labels of statements and one more are those of the statements, and its own.
labels_behind : (end : ℕ) (before ss : List Statement) (s : Statement)
    → labels_from end before (ss ++ s ∷ []) ≡ labels_from end before ss ++ label_at (address_at (place_behind end (before ++ ss))) s.body
unfolding labels_from
labels_behind end before [] s = rw (append-nil before, append-nil (label_at (address_at (place_behind end before)) s.body)) refl
labels_behind end before (t ∷ ts) s =
    rw (labels_behind end (before ++ t ∷ []) ts s, append_assoc before (t ∷ []) ts)
    (sym (append_assoc (label_at (address_at (place_behind end before)) t.body) (labels_from end (before ++ t ∷ []) ts)
    (label_at (address_at (place_behind end (before ++ t ∷ ts))) s.body)))

pub labels_more : (end i : ℕ) (ss : List Statement) (s : Statement) (place : Place) → i < length ss → s ≡ get_or ss i s
    → place ≡ place_behind end (take i ss)
    → labels_from end [] (take i ss) ++ label_at (address_at place) s.body ≡ labels_from end [] (take (i + 1) ss)
labels_more end i ss s place lt is stands = rw (take_more_read ss i s lt is, stands) (sym (labels_behind end [] (take i ss) s))

-- no label stands before the first statement
pub none_held : (end : ℕ) (map : BTreeMap (Bor (List ℕ)) ℕ) → map.entries ≡ [] → HoldsLabels map (labels_from end [] [])
unfolding labels_from
none_held end map empty name = rw empty refl

-- A label behind others, among which it isn't, is found, and the others are found as before.
pub found_behind : (known : Addresses) (name : List ℕ) (address : ℕ) (wanted : List ℕ) → named known name ≡ None
    → named (known ++ (name, address) ∷ []) wanted ≡ cond (bytes_eq name wanted) (Some address) (named known wanted)
found_behind [] name address wanted none = refl
found_behind (entry ∷ entries) name address wanted none =
    let parts = cond_none_parts (bytes_eq entry.0 name) entry.1 (named entries name) none in
    let apart : bytes_eq name wanted ≡ true → bytes_eq entry.0 wanted ≡ false =
    λ same. ap (λ (text : List ℕ). bytes_eq entry.0 text) (sym ((bytes_eq-Decides name wanted).0 same)) ∙ parts.0 in
    rw (found_behind entries name address wanted parts.1)
    (cond_some-comm (bytes_eq entry.0 wanted) (bytes_eq name wanted) entry.1 address (named entries wanted) apart)

-- a label that isn't among others stands behind them
pub label_added : (known : Addresses) (body : Body) (name name' : List ℕ) (address address' : ℕ) → body ≡ Label name → name' ≡ name
    → address' ≡ address
    → named known name' ≡ None → (twice_fault known body ≡ None) × (known ++ label_at address body ≡ known ++ (name', address') ∷ [])
label_added known body name name' address address' is same at none = rw (is, ← same, ← at, none) (refl, refl)
