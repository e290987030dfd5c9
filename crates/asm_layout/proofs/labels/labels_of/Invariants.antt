use Rattle.std.proofs.Common.{◌≡◌, [], take, drop}
use Rattle.asm_layout.specs.Labels.{labels_from, HoldsLabels}
use Rattle.asm_layout.specs.Passes.{first_fault, twice_test}
use Rattle.asm_layout.proofs.PlacesLaws.{StandsBehind}
use Rattle.asm_layout.proofs.labels.labels_of.Given as goal

abbrev pub invariant-loop-statement : goal.invariant-loop-statement
invariant-loop-statement l = record {
  stands : StandsBehind l.end l.statement-index l.statements l.place;
  held : HoldsLabels l.labels (labels_from l.end [] (take l.statement-index l.statements));
  read : first_fault (twice_test l.end) (take l.statement-index l.statements) (drop l.statement-index l.statements)
      ≡ first_fault (twice_test l.end) [] l.statements;
}
