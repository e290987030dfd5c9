use Rattle.std.proofs.Common.{◌≡◌, ◌++◌, map, length}
use Rattle.std.specs.List.{AllByRecursion}
use Rattle.image_file.specs.Value.{HasWords}
use Rattle.asm_layout.specs.Labels.{Addresses, HoldsLabels}
use Rattle.asm_link.specs.Assembly.{addressed_segments}
use Rattle.asm_link.proofs.segments.push_addressed.Given as goal

abbrev pub invariant-loop-left : goal.invariant-loop-left
invariant-loop-left l = record {
  segments : (known : Addresses) → HoldsLabels l.labels known → l.segments.items ++ addressed_segments known (map (λ s. s.body) l.left)
      ≡ l.fn.segments.items ++ addressed_segments known (map (λ s. s.body) l.statements);
  fit : AllByRecursion HasWords l.fn.segments.items → AllByRecursion HasWords l.segments.items;
}

abbrev pub decreases-loop-left : goal.decreases-loop-left
decreases-loop-left l = length l.left
