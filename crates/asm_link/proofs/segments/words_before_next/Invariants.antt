use Rattle.std.proofs.Common.{◌≡◌, ◌++◌, map, length}
use Rattle.std.specs.List.{All}
use Rattle.image_file.specs.Value.{IsNumber}
use Rattle.asm_layout.specs.Labels.{Addresses, HoldsLabels}
use Rattle.asm_link.specs.Assembly.{words_before_next}
use Rattle.asm_link.proofs.segments.words_before_next.Given as goal

abbrev pub invariant-loop-left : goal.invariant-loop-left
invariant-loop-left l = record {
  words : (known : Addresses) → HoldsLabels l.labels known → l.words.items ++ words_before_next known (map (λ s. s.body) l.left)
      ≡ words_before_next known (map (λ s. s.body) l.statements);
  fit : All IsNumber l.words.items;
}

abbrev pub decreases-loop-left : goal.decreases-loop-left
decreases-loop-left l = length l.left
