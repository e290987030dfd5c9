-- The instruction that a word spells, read from the word's fields. `decode` gives it, and proves that `Spells` has it
-- for this word and no other instruction.
use Rattle.std.specs.Prelude.{ℕ, true, false, ◌+◌, ◌/◌, ◌%◌, ◌^◌, ◌==◌, if◌then◌else◌, Option, Some, None}
use Rattle.mips_isa.specs.declared.Instr.{Instr}
use Rattle.mips_isa.specs.declared.Instr.TheVariants.{Shift, ShiftBy, Alu, AluImm, Lui, BranchTwo, BranchZero, Jump, JumpReg, JumpLink, Lw}
use Rattle.mips_isa.specs.declared.Instr.TheVariants.{Sw, Cas, Halt}
use Rattle.mips_isa.specs.declared.ShiftOp.TheVariants.{Sll, Srl, Sra}
use Rattle.mips_isa.specs.declared.AluOp.TheVariants.{Add, Addu, Sub, Subu, And, Or, Xor, Nor, Slt, Sltu}
use Rattle.mips_isa.specs.declared.ImmOp.TheVariants.{Addi, Addiu, Slti, Sltiu, Andi, Ori, Xori}
use Rattle.mips_isa.specs.declared.ZeroOp.TheVariants.{Bltz, Bgez, Blez, Bgtz}

-- A field of five bits that begins at a place, counted from the lowest bit.
abbrev pub five_bits : ℕ → ℕ → ℕ
five_bits place word = word / 2 ^ place % 32

-- An instruction, where the field that it does not use, or the sum of these fields, is 0.
abbrev pub where_zero : ℕ → Instr → Option Instr
where_zero unused instr = if unused == 0 then Some instr else None

-- Opcode 0 is told by the function.
unfoldable pub special_of : ℕ → ℕ → ℕ → ℕ → ℕ → Option Instr
special_of rs rt rd sa function =
    if function == 0 then where_zero rs (Shift Sll rd rt sa) else
    (if function == 2 then where_zero rs (Shift Srl rd rt sa) else
    (if function == 3 then where_zero rs (Shift Sra rd rt sa) else
    (if function == 4 then where_zero sa (ShiftBy Sll rd rt rs) else
    (if function == 6 then where_zero sa (ShiftBy Srl rd rt rs) else
    (if function == 7 then where_zero sa (ShiftBy Sra rd rt rs) else
    (if function == 8 then where_zero (rt + rd + sa) (JumpReg rs) else
    (if function == 9 then where_zero (rt + sa) (JumpLink rd rs) else
    (if function == 13 then where_zero (rs + rt + rd + sa) Halt else
    (if function == 32 then where_zero sa (Alu Add rd rs rt) else
    (if function == 33 then where_zero sa (Alu Addu rd rs rt) else
    (if function == 34 then where_zero sa (Alu Sub rd rs rt) else
    (if function == 35 then where_zero sa (Alu Subu rd rs rt) else
    (if function == 36 then where_zero sa (Alu And rd rs rt) else
    (if function == 37 then where_zero sa (Alu Or rd rs rt) else
    (if function == 38 then where_zero sa (Alu Xor rd rs rt) else
    (if function == 39 then where_zero sa (Alu Nor rd rs rt) else
    (if function == 42 then where_zero sa (Alu Slt rd rs rt) else
    (if function == 43 then where_zero sa (Alu Sltu rd rs rt) else
    None))))))))))))))))))

-- Opcode 63 has compare and swap alone.
abbrev pub cas_of : ℕ → ℕ → ℕ → ℕ → ℕ → Option Instr
cas_of rs rt rd sa function =
    if function == 63 then where_zero sa (Cas rd rs rt) else None

-- Opcode 1 is told by the field rt.
abbrev pub branch_zero_of : ℕ → ℕ → ℕ → Option Instr
branch_zero_of rs rt imm =
    if rt == 0 then Some (BranchZero Bltz rs imm) else
    (if rt == 1 then Some (BranchZero Bgez rs imm) else None)

-- The other opcodes, but for the jumps, have an immediate.
unfoldable pub immediate_of : ℕ → ℕ → ℕ → ℕ → Option Instr
immediate_of opcode rs rt imm =
    if opcode == 1 then branch_zero_of rs rt imm else
    (if opcode == 4 then Some (BranchTwo false rs rt imm) else
    (if opcode == 5 then Some (BranchTwo true rs rt imm) else
    (if opcode == 6 then where_zero rt (BranchZero Blez rs imm) else
    (if opcode == 7 then where_zero rt (BranchZero Bgtz rs imm) else
    (if opcode == 8 then Some (AluImm Addi rt rs imm) else
    (if opcode == 9 then Some (AluImm Addiu rt rs imm) else
    (if opcode == 10 then Some (AluImm Slti rt rs imm) else
    (if opcode == 11 then Some (AluImm Sltiu rt rs imm) else
    (if opcode == 12 then Some (AluImm Andi rt rs imm) else
    (if opcode == 13 then Some (AluImm Ori rt rs imm) else
    (if opcode == 14 then Some (AluImm Xori rt rs imm) else
    (if opcode == 15 then where_zero rs (Lui rt imm) else
    (if opcode == 35 then Some (Lw rt rs imm) else
    (if opcode == 43 then Some (Sw rt rs imm) else None))))))))))))))

-- The instruction that a word spells, or none.
unfoldable pub instr_of : ℕ → Option Instr
instr_of word =
    if word / 2 ^ 26 == 0 then special_of (five_bits 21 word) (five_bits 16 word) (five_bits 11 word) (five_bits 6 word) (word % 64) else
    (if word / 2 ^ 26 == 2 then Some (Jump false (word % 2 ^ 26)) else
    (if word / 2 ^ 26 == 3 then Some (Jump true (word % 2 ^ 26)) else
    (if word / 2 ^ 26 == 63 then cas_of (five_bits 21 word) (five_bits 16 word) (five_bits 11 word) (five_bits 6 word) (word % 64) else
    immediate_of (word / 2 ^ 26) (five_bits 21 word) (five_bits 16 word) (word % 2 ^ 16))))
