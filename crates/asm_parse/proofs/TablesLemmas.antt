-- What is found in a table.
use Rattle.std.proofs.Common.{◌≡◌, ℕ, ◌<◌, ltb, true, false, cond, List, [], ◌∷◌, Some}
use Rattle.std.specs.Prelude.{IfSome}
use Rattle.std.specs.List.{list_all}
use Rattle.std.specs.Str.{bytes_eq}
use Rattle.std.proofs.lemmas.Bool.{ltb-true, and_parts}
use Rattle.kmp_base.specs.Names.{named}

pub found_below : (limit : ℕ) (entries : List (List ℕ × ℕ)) (name : List ℕ) → list_all (λ entry. ltb entry.1 limit) entries ≡ true
    → IfSome (named entries name) (λ r. r < limit)
found_below limit [] name all = tt
found_below limit (entry ∷ entries) name all =
    let parts = and_parts (ltb entry.1 limit) (list_all (λ entry. ltb entry.1 limit) entries) all in
    elim (bytes_eq entry.0 name) as (λ b. IfSome (cond b (Some entry.1) (named entries name)) (λ r. r < limit)) [
      | true ↦ ltb-true _ _ parts.0
      | false ↦ found_below limit entries name parts.1
    ]
