use Rattle.std.proofs.Common.{◌≡◌, ◌*◌, ◌≤◌, [], take, drop}
use Rattle.asm_layout.specs.Places.{code_behind}
use Rattle.asm_layout.specs.Labels.{Addresses, HoldsLabels}
use Rattle.asm_layout.specs.Passes.{first_fault, operand_test}
use Rattle.asm_layout.proofs.operands.first_bad_operand.Given as goal

abbrev pub invariant-loop-statement : goal.invariant-loop-statement
invariant-loop-statement l = record {
  counted : l.here ≡ code_behind (take l.statement-index l.statements);
  bound : l.here ≤ 8 * l.statement-index;
  read : (known : Addresses) → HoldsLabels l.labels known
      → first_fault (operand_test known) (take l.statement-index l.statements) (drop l.statement-index l.statements)
      ≡ first_fault (operand_test known) [] l.statements;
}
