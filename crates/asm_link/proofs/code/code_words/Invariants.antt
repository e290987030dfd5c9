use Rattle.std.proofs.Common.{◌≡◌, [], ◌++◌, take, drop}
use Rattle.asm_layout.specs.Places.{code_behind}
use Rattle.asm_layout.specs.Labels.{Addresses, HoldsLabels}
use Rattle.asm_link.specs.Assembly.{code_from}
use Rattle.asm_link.proofs.code.code_words.Given as goal

abbrev pub invariant-loop-statement : goal.invariant-loop-statement
invariant-loop-statement l = record {
  at : l.here ≡ code_behind (take l.statement-index l.statements);
  words : (known : Addresses) → HoldsLabels l.labels known → l.code.items
      ++ code_from known (take l.statement-index l.statements) (drop l.statement-index l.statements) ≡ code_from known [] l.statements;
}
