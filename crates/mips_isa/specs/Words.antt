-- The word of each instruction: the sum of its fields, each times a power of two.
-- The rows are those of the MIPS32 architecture, Release 1; `cas` and `halt` are this machine's own.
-- A field that an instruction does not use is 0.
use Rattle.std.specs.Prelude.{◌≡◌, ℕ, ◌+◌, ◌*◌, ◌^◌, ◌<◌, if◌then◌else◌}
use Rattle.mips_isa.specs.declared.Instr.{Instr}
use Rattle.mips_isa.specs.declared.Instr.TheVariants.{Shift, ShiftBy, Alu, AluImm, Lui, BranchTwo, BranchZero, Jump, JumpReg, JumpLink, Lw}
use Rattle.mips_isa.specs.declared.Instr.TheVariants.{Sw, Cas, Halt}
use Rattle.mips_isa.specs.declared.ShiftOp.{ShiftOp}
use Rattle.mips_isa.specs.declared.ShiftOp.TheVariants.{Sll, Srl, Sra}
use Rattle.mips_isa.specs.declared.AluOp.{AluOp}
use Rattle.mips_isa.specs.declared.AluOp.TheVariants.{Add, Addu, Sub, Subu, And, Or, Xor, Nor, Slt, Sltu}
use Rattle.mips_isa.specs.declared.ImmOp.{ImmOp}
use Rattle.mips_isa.specs.declared.ImmOp.TheVariants.{Addi, Addiu, Slti, Sltiu, Andi, Ori, Xori}
use Rattle.mips_isa.specs.declared.ZeroOp.{ZeroOp}
use Rattle.mips_isa.specs.declared.ZeroOp.TheVariants.{Bltz, Bgez, Blez, Bgtz}

-- MIPS's R-type: opcode in bits 31 to 26, rs in 25 to 21, rt in 20 to 16, rd in 15 to 11, sa in 10 to 6, function in 5 to 0.
abbrev pub register_form : ℕ → ℕ → ℕ → ℕ → ℕ → ℕ → ℕ
register_form opcode rs rt rd sa function =
    opcode * 2 ^ 26 + rs * 2 ^ 21 + rt * 2 ^ 16 + rd * 2 ^ 11 + sa * 2 ^ 6 + function

-- MIPS's I-type: opcode, rs and rt as above, and the immediate in bits 15 to 0.
abbrev pub immediate_form : ℕ → ℕ → ℕ → ℕ → ℕ
immediate_form opcode rs rt imm = opcode * 2 ^ 26 + rs * 2 ^ 21 + rt * 2 ^ 16 + imm

-- MIPS's J-type: opcode as above, and the index in bits 25 to 0.
abbrev pub jump_form : ℕ → ℕ → ℕ
jump_form opcode index = opcode * 2 ^ 26 + index

-- The function of sll, srl and sra; that of sllv, srlv and srav is greater by 4.
abbrev pub shift_function : ShiftOp → ℕ
shift_function Sll = 0
shift_function Srl = 2
shift_function Sra = 3

-- The function of an instruction over three registers.
abbrev pub alu_function : AluOp → ℕ
alu_function Add = 32
alu_function Addu = 33
alu_function Sub = 34
alu_function Subu = 35
alu_function And = 36
alu_function Or = 37
alu_function Xor = 38
alu_function Nor = 39
alu_function Slt = 42
alu_function Sltu = 43

-- The opcode of an instruction over a register and an immediate.
abbrev pub immediate_opcode : ImmOp → ℕ
immediate_opcode Addi = 8
immediate_opcode Addiu = 9
immediate_opcode Slti = 10
immediate_opcode Sltiu = 11
immediate_opcode Andi = 12
immediate_opcode Ori = 13
immediate_opcode Xori = 14

-- The opcode of a branch that compares with zero; bltz and bgez share theirs.
abbrev pub zero_opcode : ZeroOp → ℕ
zero_opcode Bltz = 1
zero_opcode Bgez = 1
zero_opcode Blez = 6
zero_opcode Bgtz = 7

-- What stands in the field rt of such a branch.
abbrev pub zero_field : ZeroOp → ℕ
zero_field Bltz = 0
zero_field Bgez = 1
zero_field Blez = 0
zero_field Bgtz = 0

-- The word of an instruction, row by row.
abbrev pub word_of : Instr → ℕ
word_of (Shift op rd rt sa) = register_form 0 0 rt rd sa (shift_function op)
word_of (ShiftBy op rd rt rs) = register_form 0 rs rt rd 0 (shift_function op + 4)
word_of (Alu op rd rs rt) = register_form 0 rs rt rd 0 (alu_function op)
word_of (AluImm op rt rs imm) = immediate_form (immediate_opcode op) rs rt imm
word_of (Lui rt imm) = immediate_form 15 0 rt imm
word_of (BranchTwo differ rs rt imm) = immediate_form (if differ then 5 else 4) rs rt imm
word_of (BranchZero op rs imm) = immediate_form (zero_opcode op) rs (zero_field op) imm
word_of (Jump link index) = jump_form (if link then 3 else 2) index
word_of (JumpReg rs) = register_form 0 rs 0 0 0 8
word_of (JumpLink rd rs) = register_form 0 rs 0 rd 0 9
word_of (Lw rt rs imm) = immediate_form 35 rs rt imm
word_of (Sw rt rs imm) = immediate_form 43 rs rt imm
word_of (Cas rd rs rt) = register_form 63 rs rt rd 0 63
word_of Halt = 13

-- An instruction is proper where its fields fit: registers and sa have five bits, an immediate 16, an index 26.
abbrev pub IsProper : Instr → Type 0
IsProper (Shift op rd rt sa) = (rd < 32) × (rt < 32) × (sa < 32)
IsProper (ShiftBy op rd rt rs) = (rd < 32) × (rt < 32) × (rs < 32)
IsProper (Alu op rd rs rt) = (rd < 32) × (rs < 32) × (rt < 32)
IsProper (AluImm op rt rs imm) = (rt < 32) × (rs < 32) × (imm < 2 ^ 16)
IsProper (Lui rt imm) = (rt < 32) × (imm < 2 ^ 16)
IsProper (BranchTwo differ rs rt imm) = (rs < 32) × (rt < 32) × (imm < 2 ^ 16)
IsProper (BranchZero op rs imm) = (rs < 32) × (imm < 2 ^ 16)
IsProper (Jump link index) = index < 2 ^ 26
IsProper (JumpReg rs) = rs < 32
IsProper (JumpLink rd rs) = (rd < 32) × (rs < 32)
IsProper (Lw rt rs imm) = (rt < 32) × (rs < 32) × (imm < 2 ^ 16)
IsProper (Sw rt rs imm) = (rt < 32) × (rs < 32) × (imm < 2 ^ 16)
IsProper (Cas rd rs rt) = (rd < 32) × (rs < 32) × (rt < 32)
IsProper Halt = Unit {0}

-- A word is spelled by the proper instruction whose word it is.
pub record Spells (instr : Instr) (word : ℕ) : Type 0 where
  pub proper : IsProper instr
  pub spelled : word ≡ word_of instr
