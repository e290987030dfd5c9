use Rattle.std.proofs.Common.{◌≡◌, ℕ, Bor, List, drop, map}
use Rattle.kmp_base.specs.Names.{named}
use Rattle.kmp_base.proofs.names.named.Given as goal

abbrev pub invariant-loop-name : goal.invariant-loop-name
invariant-loop-name g l =
    named (map (λ (entry : Bor (List ℕ) × g.row.T.Denot). (entry.0.now, entry.1)) (drop l.name-index l.table)) l.text
    ≡ named (map (λ (entry : Bor (List ℕ) × g.row.T.Denot). (entry.0.now, entry.1)) l.table) l.text
