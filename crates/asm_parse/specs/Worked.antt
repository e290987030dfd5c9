-- Lines that are worked by hand: labels, spacing, comments, other names of registers, hexadecimal numbers, and faults.
use Rattle.std.specs.Prelude.{◌≡◌, false, [], ◌∷◌, Ok, Err, codes}
use Rattle.mips_isa.specs.declared.Instr.TheVariants as instrs
use Rattle.mips_isa.specs.declared.ShiftOp.TheVariants.{Sra}
use Rattle.mips_isa.specs.declared.ImmOp.TheVariants.{Addiu}
use Rattle.asm_token.specs.declared.fault.AsmCause.TheVariants.{BadByte, UnknownName, BadOperand, Range}
use Rattle.asm_parse.specs.declared.statement.Body.TheVariants as bodies
use Rattle.asm_parse.specs.declared.statement.Part.TheVariants.{Text, Data}
use Rattle.asm_parse.specs.declared.statement.Value.TheVariants.{Number, Of}
use Rattle.asm_parse.specs.Lines.{line_of, on_line, statements_of}

pub record WorkedLinesAreRead : Type 0 where
  pub labels_in_front :
      line_of Text (codes "loop: again:\taddiu $sp,$sp,-4 # push")
      ≡ Ok (bodies.Label (codes "loop") ∷ bodies.Label (codes "again") ∷ bodies.Plain (instrs.AluImm Addiu 29 29 65532) ∷ [], Text)
  pub blanks_anywhere : line_of Text (codes "  lw $t0 , 0x10 ( $a0 )\r") ≡ Ok (bodies.Plain (instrs.Lw 8 4 16) ∷ [], Text)
  pub no_blanks : line_of Text (codes "sra$3,$4,31") ≡ Ok (bodies.Plain (instrs.Shift Sra 3 4 31) ∷ [], Text)
  pub comment_alone : line_of Text (codes "# add $1, $2, $3") ≡ Ok ([], Text)
  pub comment_at_once : line_of Text (codes "halt#") ≡ Ok (bodies.Plain instrs.Halt ∷ [], Text)
  pub load : line_of Text (codes "li $2, 0x12345678") ≡ Ok (bodies.Load 2 (Number 0x12345678) ∷ [], Text)
  pub words :
      line_of Data (codes "x: .word 1,-1, x")
      ≡ Ok (bodies.Label (codes "x") ∷ bodies.Word (Number 1) ∷ bodies.Word (Number 0xffffffff) ∷ bodies.Word (Of (codes "x")) ∷ [], Data)
  pub segment : line_of Text (codes ".data 0x1000") ≡ Ok (bodies.DataAt 4096 ∷ [], Data)
  pub jump_address : line_of Text (codes "j 8") ≡ Ok (bodies.Plain (instrs.Jump false 2) ∷ [], Text)
  pub bad_byte : line_of Text (codes "add $1, $2, 3x") ≡ Err BadByte
  pub no_statement : line_of Text (codes "subi $1, $2, 3") ≡ Err UnknownName
  pub no_register : line_of Text (codes "add $1, $2, $32") ≡ Err UnknownName
  pub one_too_few : line_of Text (codes "add $1, $2") ≡ Err BadOperand
  pub too_great : line_of Text (codes "addi $1, $2, 32768") ≡ Err Range
  pub another_part : line_of Text (codes ".word 1") ≡ Err BadOperand
  pub lines :
      statements_of (codes "b end\n\nend: halt")
      ≡ Ok (on_line 1 (bodies.BranchTo (instrs.BranchTwo false 0 0 0) (codes "end")) ∷ on_line 3 (bodies.Label (codes "end"))
      ∷ on_line 3 (bodies.Plain instrs.Halt) ∷ [])
  pub first_fault : statements_of (codes "halt\nhalt $1\nstop") ≡ Err (BadOperand, 2)
