-- Delay slots: of a branch or a jump, the word of code behind it.
use Rattle.std.specs.Prelude.{ℕ, Bool, true, false, not, ◌==◌, ◌&&◌, List, map, filter, zip, drop}
use Rattle.mips_isa.specs.declared.Instr.{Instr}
use Rattle.mips_isa.specs.declared.Instr.TheVariants as instrs
use Rattle.asm_parse.specs.declared.statement.Body.{Body}
use Rattle.asm_parse.specs.declared.statement.Body.TheVariants.{Plain, BranchTo, JumpTo}
use Rattle.asm_parse.specs.declared.statement.Statement.{Statement}
use Rattle.asm_layout.specs.Places.{code_size}

abbrev pub is_branch_or_jump : Instr → Bool
is_branch_or_jump (instrs.BranchTwo differ rs rt imm) = true
is_branch_or_jump (instrs.BranchZero op rs imm) = true
is_branch_or_jump (instrs.Jump link index) = true
is_branch_or_jump (instrs.JumpReg rs) = true
is_branch_or_jump (instrs.JumpLink rd rs) = true
is_branch_or_jump other = false

-- whether a delay slot stands behind a statement
abbrev pub has_delay_slot : Body → Bool
has_delay_slot (Plain instr) = is_branch_or_jump instr
has_delay_slot (BranchTo instr label) = true
has_delay_slot (JumpTo link label) = true
has_delay_slot other = false

-- the statements with code
abbrev pub with_code : List Statement → List Statement
with_code statements = filter (λ s. not (code_size s.body == 0)) statements

-- Of two statements whose code is side by side, the second has two words, and only the first of them stands in the delay slot.
abbrev pub is_split : Statement × Statement → Bool
is_split pair = has_delay_slot pair.0.body && (code_size pair.1.body == 8)

-- The lines of statements of two words that a delay slot splits.
abbrev pub split_lines : List Statement → List ℕ
split_lines statements =
    let code = with_code statements in
    map (λ pair. pair.1.line) (filter is_split (zip code (drop 1 code)))
