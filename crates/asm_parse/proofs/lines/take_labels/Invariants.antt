use Rattle.std.proofs.Common.{◌≡◌, ◌++◌, length, map}
use Rattle.std.specs.Prelude.{All}
use Rattle.asm_parse.specs.declared.statement.Body.TheVariants as bodies
use Rattle.asm_parse.specs.Lines.{labels_in, behind_labels}
use Rattle.asm_parse.specs.Statements.{IsProperBody}
use Rattle.asm_parse.proofs.lines.take_labels.Given as goal

abbrev pub invariant-labels : goal.invariant-labels
invariant-labels l = record {
  labels : l.bodies.items ++ map bodies.Label (labels_in l.rest) ≡ l.fn.bodies.items ++ map bodies.Label (labels_in l.tokens);
  proper : All IsProperBody l.bodies.items;
  rest : behind_labels l.rest ≡ behind_labels l.tokens;
}

abbrev pub decreases-labels : goal.decreases-labels
decreases-labels l = length l.rest
