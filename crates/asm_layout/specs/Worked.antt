-- Delay slots that are worked by hand.
use Rattle.std.specs.Prelude.{◌≡◌, ℕ, true, false, List, [], ◌∷◌, codes}
use Rattle.mips_isa.specs.declared.Instr.TheVariants as instrs
use Rattle.mips_isa.specs.declared.AluOp.TheVariants.{Addu}
use Rattle.mips_isa.specs.declared.ZeroOp.TheVariants.{Bgtz}
use Rattle.asm_parse.specs.declared.statement.Body.{Body}
use Rattle.asm_parse.specs.declared.statement.Body.TheVariants.{Label, Text, DataAt, Word, Space, Plain, BranchTo, JumpTo, Load}
use Rattle.asm_parse.specs.declared.statement.Value.TheVariants.{Number, Of}
use Rattle.asm_parse.specs.Lines.{on_line}
use Rattle.asm_layout.specs.DelaySlots.{split_lines}

-- `li $a0, 7`
abbrev pub li : Body
li = Load 4 (Number 7)

-- the lines that are split where `li $a0, 7` stands on line 2, and this on line 1
abbrev pub with_li : Body → List ℕ
with_li body = split_lines (on_line 1 body ∷ on_line 2 li ∷ [])

pub record WorkedDelaySlots : Type 0 where
  pub branch_two : with_li (Plain (instrs.BranchTwo true 4 0 3)) ≡ 2 ∷ []
  pub branch_zero : with_li (Plain (instrs.BranchZero Bgtz 4 3)) ≡ 2 ∷ []
  pub jump : with_li (Plain (instrs.Jump true 4)) ≡ 2 ∷ []
  pub jump_register : with_li (Plain (instrs.JumpReg 31)) ≡ 2 ∷ []
  pub jump_link : with_li (Plain (instrs.JumpLink 31 25)) ≡ 2 ∷ []
  pub branch_to_label : with_li (BranchTo (instrs.BranchTwo false 0 0 0) (codes "end")) ≡ 2 ∷ []
  pub jump_to_label : with_li (JumpTo true (codes "double")) ≡ 2 ∷ []
  pub no_branch : with_li (Plain (instrs.Alu Addu 2 4 4)) ≡ []
  pub behind_li : with_li li ≡ []
  pub address : split_lines (on_line 4 (Plain (instrs.JumpReg 31)) ∷ on_line 5 (Load 4 (Of (codes "table"))) ∷ []) ≡ 5 ∷ []
  pub none_of_code_between :
      split_lines (on_line 1 (JumpTo true (codes "double")) ∷ on_line 2 (DataAt 4096) ∷ on_line 3 (Word (Number 1)) ∷ on_line 4 (Space 8)
      ∷ on_line 5 Text ∷ on_line 6 (Label (codes "back")) ∷ on_line 6 li ∷ []) ≡ 6 ∷ []
  pub one_word_between :
      split_lines (on_line 1 (JumpTo true (codes "double")) ∷ on_line 2 (Plain (instrs.Alu Addu 4 16 0)) ∷ on_line 3 li ∷ []) ≡ []
  pub each :
      split_lines (on_line 1 (Plain (instrs.JumpReg 31)) ∷ on_line 2 li ∷ on_line 3 (Plain (instrs.JumpReg 31)) ∷ on_line 4 li ∷ [])
      ≡ 2 ∷ 4 ∷ []
