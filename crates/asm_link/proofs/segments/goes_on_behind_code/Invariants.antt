use Rattle.std.proofs.Common.{◌≡◌, map, length}
use Rattle.asm_link.specs.Assembly.{goes_on_behind_code}
use Rattle.asm_link.proofs.segments.goes_on_behind_code.Given as goal

abbrev pub invariant-loop-left : goal.invariant-loop-left
invariant-loop-left l = goes_on_behind_code (map (λ s. s.body) l.left) ≡ goes_on_behind_code (map (λ s. s.body) l.statements)

abbrev pub decreases-loop-left : goal.decreases-loop-left
decreases-loop-left l = length l.left
