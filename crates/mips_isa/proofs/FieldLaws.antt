-- A word has one row of fields, so the instruction that spells it is found by them.
use Rattle.std.proofs.Common.{◌≡◌, ℕ, ◌+◌, ◌*◌, ◌/◌, ◌%◌, ◌^◌, ◌<◌, Bool, true, false, arith, refl}
use Rattle.std.specs.Prelude.{Some, ◌==◌, ◌||◌}
use Rattle.mips_isa.specs.declared.Instr.{Instr}
use Rattle.mips_isa.specs.declared.Instr.TheVariants.{Shift, ShiftBy, Alu, AluImm, Lui, BranchTwo, BranchZero, Jump, JumpReg, JumpLink, Lw}
use Rattle.mips_isa.specs.declared.Instr.TheVariants.{Sw, Cas, Halt}
use Rattle.mips_isa.specs.declared.ShiftOp.TheVariants.{Sll, Srl, Sra}
use Rattle.mips_isa.specs.declared.AluOp.TheVariants.{Add, Addu, Sub, Subu, And, Or, Xor, Nor, Slt, Sltu}
use Rattle.mips_isa.specs.declared.ImmOp.TheVariants.{Addi, Addiu, Slti, Sltiu, Andi, Ori, Xori}
use Rattle.mips_isa.specs.declared.ZeroOp.TheVariants.{Bltz, Bgez, Blez, Bgtz}
use Rattle.mips_isa.specs.Words.{register_form, immediate_form, jump_form, word_of, IsProper, Spells, shift_function, alu_function}
use Rattle.mips_isa.specs.Words.{immediate_opcode, zero_opcode, zero_field}
use Rattle.mips_isa.specs.Fields.{five_bits, special_of, cas_of, immediate_of, instr_of}

-- The fields of a word, each read from it.
pub record HasFields (word o s t d a f i j : ℕ) : Type 0 where
  pub opcode : word / 2 ^ 26 ≡ o
  pub rs : five_bits 21 word ≡ s
  pub rt : five_bits 16 word ≡ t
  pub rd : five_bits 11 word ≡ d
  pub sa : five_bits 6 word ≡ a
  pub function : word % 64 ≡ f
  pub imm : word % 2 ^ 16 ≡ i
  pub index : word % 2 ^ 26 ≡ j

-- The fields of a sum of six fields are these fields.
pub register_fields : (o s t d a f : ℕ) → s < 32 → t < 32 → d < 32 → a < 32 → f < 64
    → HasFields (register_form o s t d a f) o s t d a f (d * 2048 + a * 64 + f) (s * 2097152 + t * 65536 + d * 2048 + a * 64 + f)
register_fields o s t d a f fs ft fd fa ff = record {
  opcode = omega arith;
  rs = omega arith;
  rt = omega arith;
  rd = omega arith;
  sa = omega arith;
  function = omega arith;
  imm = omega arith;
  index = omega arith;
}

-- The fields of a sum of four fields are these fields, and those of the immediate.
pub immediate_fields : (o s t i : ℕ) → s < 32 → t < 32 → i < 2 ^ 16
    → HasFields (immediate_form o s t i) o s t (i / 2048) (i / 64 % 32) (i % 64) i (s * 2097152 + t * 65536 + i)
immediate_fields o s t i fs ft fi = record {
  opcode = omega arith;
  rs = omega arith;
  rt = omega arith;
  rd = omega arith;
  sa = omega arith;
  function = omega arith;
  imm = omega arith;
  index = omega arith;
}

-- A word with opcode 0 is read by its function.
instr_of-special : (s t d a f : ℕ) → s < 32 → t < 32 → d < 32 → a < 32 → f < 64
    → instr_of (register_form 0 s t d a f) ≡ special_of s t d a f
unfolding instr_of
instr_of-special s t d a f fs ft fd fa ff =
    let h : HasFields (register_form 0 s t d a f) 0 s t d a f (d * 2048 + a * 64 + f) (s * 2097152 + t * 65536 + d * 2048 + a * 64 + f) =
    register_fields 0 s t d a f fs ft fd fa ff in
    rw (h.opcode, h.rs, h.rt, h.rd, h.sa, h.function) refl

-- A word with opcode 63 is read by its function.
instr_of-cas : (s t d a f : ℕ) → s < 32 → t < 32 → d < 32 → a < 32 → f < 64
    → instr_of (register_form 63 s t d a f) ≡ cas_of s t d a f
unfolding instr_of
instr_of-cas s t d a f fs ft fd fa ff =
    let h : HasFields (register_form 63 s t d a f) 63 s t d a f (d * 2048 + a * 64 + f) (s * 2097152 + t * 65536 + d * 2048 + a * 64 + f) =
    register_fields 63 s t d a f fs ft fd fa ff in
    rw (h.opcode, h.rs, h.rt, h.rd, h.sa, h.function) refl

-- Whether an opcode has a function or an index.
abbrev is_other : ℕ → Bool
is_other o = (o == 0) || ((o == 2) || ((o == 3) || (o == 63)))

-- A word with another opcode is read by it.
instr_of-immediate : (o s t i : ℕ) → is_other o ≡ false → s < 32 → t < 32 → i < 2 ^ 16
    → instr_of (immediate_form o s t i) ≡ immediate_of o s t i
unfolding instr_of
instr_of-immediate o s t i other fs ft fi =
    let h : HasFields (immediate_form o s t i) o s t (i / 2048) (i / 64 % 32) (i % 64) i (s * 2097152 + t * 65536 + i) =
    immediate_fields o s t i fs ft fi in
    rw (h.opcode, h.rs, h.rt, h.imm) (grind (arith, other))

-- A word with opcode 2 or 3 has an index.
instr_of-jump : (index : ℕ) → index < 2 ^ 26 → instr_of (jump_form 2 index) ≡ Some (Jump false index)
unfolding instr_of
instr_of-jump index f =
    let opcode : jump_form 2 index / 2 ^ 26 ≡ 2 = omega arith in
    let rest : jump_form 2 index % 2 ^ 26 ≡ index = omega arith in
    rw (opcode, rest) refl

instr_of-jump_link : (index : ℕ) → index < 2 ^ 26 → instr_of (jump_form 3 index) ≡ Some (Jump true index)
unfolding instr_of
instr_of-jump_link index f =
    let opcode : jump_form 3 index / 2 ^ 26 ≡ 3 = omega arith in
    let rest : jump_form 3 index % 2 ^ 26 ≡ index = omega arith in
    rw (opcode, rest) refl

-- An instruction is read from its word.
pub instr_of-word_of : (instr : Instr) → IsProper instr → instr_of (word_of instr) ≡ Some instr
unfolding instr_of special_of immediate_of
instr_of-word_of (Shift Sll rd rt sa) p = instr_of-special 0 rt rd sa (shift_function Sll) (omega arith) p.1 p.0 p.2 (omega arith)
instr_of-word_of (Shift Srl rd rt sa) p = instr_of-special 0 rt rd sa (shift_function Srl) (omega arith) p.1 p.0 p.2 (omega arith)
instr_of-word_of (Shift Sra rd rt sa) p = instr_of-special 0 rt rd sa (shift_function Sra) (omega arith) p.1 p.0 p.2 (omega arith)
instr_of-word_of (ShiftBy Sll rd rt rs) p = instr_of-special rs rt rd 0 (shift_function Sll + 4) p.2 p.1 p.0 (omega arith) (omega arith)
instr_of-word_of (ShiftBy Srl rd rt rs) p = instr_of-special rs rt rd 0 (shift_function Srl + 4) p.2 p.1 p.0 (omega arith) (omega arith)
instr_of-word_of (ShiftBy Sra rd rt rs) p = instr_of-special rs rt rd 0 (shift_function Sra + 4) p.2 p.1 p.0 (omega arith) (omega arith)
instr_of-word_of (Alu Add rd rs rt) p = instr_of-special rs rt rd 0 (alu_function Add) p.1 p.2 p.0 (omega arith) (omega arith)
instr_of-word_of (Alu Addu rd rs rt) p = instr_of-special rs rt rd 0 (alu_function Addu) p.1 p.2 p.0 (omega arith) (omega arith)
instr_of-word_of (Alu Sub rd rs rt) p = instr_of-special rs rt rd 0 (alu_function Sub) p.1 p.2 p.0 (omega arith) (omega arith)
instr_of-word_of (Alu Subu rd rs rt) p = instr_of-special rs rt rd 0 (alu_function Subu) p.1 p.2 p.0 (omega arith) (omega arith)
instr_of-word_of (Alu And rd rs rt) p = instr_of-special rs rt rd 0 (alu_function And) p.1 p.2 p.0 (omega arith) (omega arith)
instr_of-word_of (Alu Or rd rs rt) p = instr_of-special rs rt rd 0 (alu_function Or) p.1 p.2 p.0 (omega arith) (omega arith)
instr_of-word_of (Alu Xor rd rs rt) p = instr_of-special rs rt rd 0 (alu_function Xor) p.1 p.2 p.0 (omega arith) (omega arith)
instr_of-word_of (Alu Nor rd rs rt) p = instr_of-special rs rt rd 0 (alu_function Nor) p.1 p.2 p.0 (omega arith) (omega arith)
instr_of-word_of (Alu Slt rd rs rt) p = instr_of-special rs rt rd 0 (alu_function Slt) p.1 p.2 p.0 (omega arith) (omega arith)
instr_of-word_of (Alu Sltu rd rs rt) p = instr_of-special rs rt rd 0 (alu_function Sltu) p.1 p.2 p.0 (omega arith) (omega arith)
instr_of-word_of (AluImm Addi rt rs imm) p = instr_of-immediate (immediate_opcode Addi) rs rt imm refl p.1 p.0 p.2
instr_of-word_of (AluImm Addiu rt rs imm) p = instr_of-immediate (immediate_opcode Addiu) rs rt imm refl p.1 p.0 p.2
instr_of-word_of (AluImm Slti rt rs imm) p = instr_of-immediate (immediate_opcode Slti) rs rt imm refl p.1 p.0 p.2
instr_of-word_of (AluImm Sltiu rt rs imm) p = instr_of-immediate (immediate_opcode Sltiu) rs rt imm refl p.1 p.0 p.2
instr_of-word_of (AluImm Andi rt rs imm) p = instr_of-immediate (immediate_opcode Andi) rs rt imm refl p.1 p.0 p.2
instr_of-word_of (AluImm Ori rt rs imm) p = instr_of-immediate (immediate_opcode Ori) rs rt imm refl p.1 p.0 p.2
instr_of-word_of (AluImm Xori rt rs imm) p = instr_of-immediate (immediate_opcode Xori) rs rt imm refl p.1 p.0 p.2
instr_of-word_of (Lui rt imm) p = instr_of-immediate 15 0 rt imm refl (omega arith) p.0 p.1
instr_of-word_of (BranchTwo false rs rt imm) p = instr_of-immediate 4 rs rt imm refl p.0 p.1 p.2
instr_of-word_of (BranchTwo true rs rt imm) p = instr_of-immediate 5 rs rt imm refl p.0 p.1 p.2
instr_of-word_of (BranchZero Bltz rs imm) p = instr_of-immediate (zero_opcode Bltz) rs (zero_field Bltz) imm refl p.0 (omega arith) p.1
instr_of-word_of (BranchZero Bgez rs imm) p = instr_of-immediate (zero_opcode Bgez) rs (zero_field Bgez) imm refl p.0 (omega arith) p.1
instr_of-word_of (BranchZero Blez rs imm) p = instr_of-immediate (zero_opcode Blez) rs (zero_field Blez) imm refl p.0 (omega arith) p.1
instr_of-word_of (BranchZero Bgtz rs imm) p = instr_of-immediate (zero_opcode Bgtz) rs (zero_field Bgtz) imm refl p.0 (omega arith) p.1
instr_of-word_of (Jump false index) p = instr_of-jump index p
instr_of-word_of (Jump true index) p = instr_of-jump_link index p
instr_of-word_of (JumpReg rs) p = instr_of-special rs 0 0 0 8 p (omega arith) (omega arith) (omega arith) (omega arith)
instr_of-word_of (JumpLink rd rs) p = instr_of-special rs 0 rd 0 9 p.1 (omega arith) p.0 (omega arith) (omega arith)
instr_of-word_of (Lw rt rs imm) p = instr_of-immediate 35 rs rt imm refl p.1 p.0 p.2
instr_of-word_of (Sw rt rs imm) p = instr_of-immediate 43 rs rt imm refl p.1 p.0 p.2
instr_of-word_of (Cas rd rs rt) p = instr_of-cas rs rt rd 0 63 p.1 p.2 p.0 (omega arith) (omega arith)
instr_of-word_of Halt p = refl

-- The one instruction that spells a word is read from it.
pub instr_of-spelled : (instr : Instr) (word : ℕ) → Spells instr word → instr_of word ≡ Some instr
instr_of-spelled instr word h = rw h.spelled (instr_of-word_of instr h.proper)
