-- Sources, words and blocks that were worked out apart from this code.
use Rattle.std.specs.Prelude.{◌≡◌, [], ◌∷◌, ◌++◌, codes}
use Rattle.workload_gen.specs.Source.{words_of, block_lines, source_text}

pub record WorkedSources : Type 0 where
  pub no_block : source_text 0 0 ≡ codes "la $s0, table\nli $s1, 0\nhalt\n.data 0x8000\ntable: .space 256\n"
  pub words : words_of 3 4 ≡ 3086511542 ∷ 1342643712 ∷ 28595221 ∷ 496592263 ∷ []
  pub words_of_greatest_seed : words_of 4294967295 2 ≡ 1024271969 ∷ 4123907966 ∷ []
  pub each_kind :
      source_text 3 4
      ≡ codes "la $s0, table\nli $s1, 0\n" ++ codes "lw $t0, 180($s0)\naddiu $t1, $s0, 180\ncas $t0, $t1, $s1\n"
      ++ codes "lw $t0, 0($s0)\naddu $s1, $s1, $t0\n" ++ codes "addiu $s1, $s1, 700\nsw $s1, 20($s0)\n"
      ++ codes "beq $s1, $zero, n3\naddiu $s1, $s1, 1\nxor $s1, $s1, $a0\nn3:\n" ++ codes "halt\n.data 0x8000\ntable: .space 256\n"
  pub greatest_numbers : block_lines 0 255997 ≡ codes "addiu $s1, $s1, 999" ∷ codes "sw $s1, 252($s0)" ∷ []
  pub least_numbers : block_lines 0 256001 ≡ codes "addiu $s1, $s1, 0" ∷ codes "sw $s1, 0($s0)" ∷ []
  pub greatest_word : block_lines 0 4294967293 ≡ codes "addiu $s1, $s1, 215" ∷ codes "sw $s1, 252($s0)" ∷ []
  pub greatest_load : block_lines 0 4294967292 ≡ codes "lw $t0, 252($s0)" ∷ codes "addu $s1, $s1, $t0" ∷ []
  pub label_of_two_digits :
      block_lines 12 7
      ≡ codes "beq $s1, $zero, n12" ∷ codes "addiu $s1, $s1, 1" ∷ codes "xor $s1, $s1, $a0" ∷ codes "n12:" ∷ []
