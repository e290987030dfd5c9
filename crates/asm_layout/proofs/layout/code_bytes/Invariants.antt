use Rattle.std.proofs.Common.{◌≡◌, ◌*◌, ◌≤◌, take}
use Rattle.asm_layout.specs.Places.{code_behind}
use Rattle.asm_layout.proofs.layout.code_bytes.Given as goal

abbrev pub invariant-loop-statement : goal.invariant-loop-statement
invariant-loop-statement l = record {
  counted : l.bytes ≡ code_behind (take l.statement-index l.statements);
  bound : l.bytes ≤ 8 * l.statement-index;
}
