use Rattle.std.proofs.Common.{◌≡◌, length}
use Rattle.asm_parse.specs.Forms.{list_of}
use Rattle.asm_parse.specs.Operands.{more_operands_in, operands_in, AreRegisters}
use Rattle.asm_parse.proofs.operands.operands_in.Given as goal

abbrev pub invariant-operands : goal.invariant-operands
invariant-operands l = record {
  registers : AreRegisters l.operands;
  left : more_operands_in (list_of l.left) l.operands l.rest ≡ operands_in (list_of l.fn.kinds) l.tokens;
}

abbrev pub decreases-operands : goal.decreases-operands
decreases-operands l = length (list_of l.left)
