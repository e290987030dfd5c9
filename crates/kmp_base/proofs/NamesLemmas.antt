-- What is found in a table by its names.
use Rattle.std.proofs.Common.{◌≡◌, ℕ, ◌+◌, ◌<◌, Bor, false, List, length, get_or, drop, map, refl}
use Rattle.std.specs.Str.{bytes_eq}
use Rattle.std.proofs.lemmas.List.{drop_more}
use Rattle.kmp_base.specs.Names.{named}

-- another name is looked for behind an entry
pub named-drop_more : {X : Type 0} (table : List (Bor (List ℕ) × X)) (i : ℕ) (d : Bor (List ℕ) × X) (text : List ℕ) → i < length table
    → bytes_eq (get_or table i d).0.now text ≡ false
    → named (map (λ (entry : Bor (List ℕ) × X). (entry.0.now, entry.1)) (drop i table)) text
    ≡ named (map (λ (entry : Bor (List ℕ) × X). (entry.0.now, entry.1)) (drop (i + 1) table)) text
named-drop_more table i d text within other = rw (drop_more table i d within, other) refl
