-- What each instruction reads, computes and writes, where it leads, and where a core stops: the effects of the MIPS32
-- architecture, Release 1, without its traps; `cas` and `halt` are this machine's own. Words are numbers below 2 ^ 32.
use Rattle.std.specs.Prelude.{◌≡◌, ℕ, ℤ, pos, ◌-ℤ◌, Bool, not, ◌&&◌, ◌||◌, ◌+◌, ◌-◌, ◌*◌, ◌/◌, ◌%◌, ◌^◌, ◌<◌, ◌≤◌, ◌==◌, IsTrue, nat_lt}
use Rattle.std.specs.Prelude.{nat_le, int_lt, if◌then◌else◌, Option, Some, None, bit_and, bit_or, bit_xor}
use Rattle.mips_isa.specs.declared.Instr.{Instr}
use Rattle.mips_isa.specs.declared.Instr.TheVariants.{Shift, ShiftBy, Alu, AluImm, Lui, BranchTwo, BranchZero, Jump, JumpReg, JumpLink, Lw}
use Rattle.mips_isa.specs.declared.Instr.TheVariants.{Sw, Cas, Halt}
use Rattle.mips_isa.specs.declared.ShiftOp.{ShiftOp}
use Rattle.mips_isa.specs.declared.ShiftOp.TheVariants.{Sll, Srl, Sra}
use Rattle.mips_isa.specs.declared.AluOp.{AluOp}
use Rattle.mips_isa.specs.declared.AluOp.TheVariants.{Add, Addu, Sub, Subu, And, Or, Xor, Nor, Slt, Sltu}
use Rattle.mips_isa.specs.declared.ImmOp.{ImmOp}
use Rattle.mips_isa.specs.declared.ImmOp.TheVariants.{Addi, Addiu, Slti, Sltiu, Andi, Ori, Xori}
use Rattle.mips_isa.specs.declared.ZeroOp.{ZeroOp}
use Rattle.mips_isa.specs.declared.ZeroOp.TheVariants.{Bltz, Bgez, Blez, Bgtz}
use Rattle.mips_isa.specs.declared.Kind.{Kind}
use Rattle.mips_isa.specs.declared.Kind.TheVariants as kinds
use Rattle.mips_isa.specs.declared.Stop.{Stop}
use Rattle.mips_isa.specs.declared.Stop.TheVariants as stops
use Rattle.mips_isa.specs.Kinds.{width, stores}

-- The signed value of a word, in two's complement.
abbrev pub signed : ℕ → ℤ
signed word = if nat_lt word (2 ^ 31) then pos word else pos word -ℤ pos (2 ^ 32)

-- The word that has the signed value of a 16-bit immediate.
abbrev pub sign_extended : ℕ → ℕ
sign_extended imm = if nat_lt imm (2 ^ 15) then imm else imm + (2 ^ 32 - 2 ^ 16)

-- Sums are modulo 2 ^ 32.
abbrev pub sum_of : ℕ → ℕ → ℕ
sum_of a b = (a + b) % 2 ^ 32

-- Differences are modulo 2 ^ 32.
abbrev pub difference_of : ℕ → ℕ → ℕ
difference_of a b = (a + 2 ^ 32 - b) % 2 ^ 32

-- The 1 or 0 that a comparison writes.
abbrev pub one_where : Bool → ℕ
one_where test = if test then 1 else 0

-- An arithmetic shift to the right: the freed bits above are copies of the sign.
abbrev pub sign_filled : ℕ → ℕ → ℕ
sign_filled word amount =
    if nat_lt word (2 ^ 31) then word / 2 ^ amount else word / 2 ^ amount + (2 ^ 32 - 2 ^ (32 - amount))

-- MIPS32's shifts: to the left, to the right with zeros, to the right with the sign.
abbrev pub shifted : ShiftOp → ℕ → ℕ → ℕ
shifted Sll word amount = word * 2 ^ amount % 2 ^ 32
shifted Srl word amount = word / 2 ^ amount
shifted Sra word amount = sign_filled word amount

-- MIPS32's operations on two words. None traps: add and sub are addu and subu.
abbrev pub computed : AluOp → ℕ → ℕ → ℕ
computed Add a b = sum_of a b
computed Addu a b = sum_of a b
computed Sub a b = difference_of a b
computed Subu a b = difference_of a b
computed And a b = bit_and a b
computed Or a b = bit_or a b
computed Xor a b = bit_xor a b
computed Nor a b = 2 ^ 32 - 1 - bit_or a b
computed Slt a b = one_where (int_lt (signed a) (signed b))
computed Sltu a b = one_where (nat_lt a b)

-- MIPS32's operations on a word and an immediate, which is extended by its sign, in sltiu too; by zeros in andi, ori, xori.
abbrev pub computed_with : ImmOp → ℕ → ℕ → ℕ
computed_with Addi a imm = sum_of a (sign_extended imm)
computed_with Addiu a imm = sum_of a (sign_extended imm)
computed_with Slti a imm = one_where (int_lt (signed a) (signed (sign_extended imm)))
computed_with Sltiu a imm = one_where (nat_lt a (sign_extended imm))
computed_with Andi a imm = bit_and a imm
computed_with Ori a imm = bit_or a imm
computed_with Xori a imm = bit_xor a imm

-- The register in the field rs, which every instruction that has the field reads; 0 where it has none.
unfoldable pub rs_of : Instr → ℕ
rs_of (ShiftBy op rd rt rs) = rs
rs_of (Alu op rd rs rt) = rs
rs_of (AluImm op rt rs imm) = rs
rs_of (BranchTwo differ rs rt imm) = rs
rs_of (BranchZero op rs imm) = rs
rs_of (JumpReg rs) = rs
rs_of (JumpLink rd rs) = rs
rs_of (Lw rt rs imm) = rs
rs_of (Sw rt rs imm) = rs
rs_of (Cas rd rs rt) = rs
rs_of _ = 0

-- The register in the field rt where the instruction reads it, else 0.
unfoldable pub rt_of : Instr → ℕ
rt_of (Shift op rd rt sa) = rt
rt_of (ShiftBy op rd rt rs) = rt
rt_of (Alu op rd rs rt) = rt
rt_of (BranchTwo differ rs rt imm) = rt
rt_of (Sw rt rs imm) = rt
rt_of (Cas rd rs rt) = rt
rt_of _ = 0

-- The register rd of a compare and swap, whose old value is the word that it expects, else 0.
unfoldable pub expected_by : Instr → ℕ
expected_by (Cas rd rs rt) = rd
expected_by _ = 0

-- The register that an instruction writes; 0 where it writes none. A jump with link writes register 31.
unfoldable pub written_by : Instr → ℕ
written_by (Shift op rd rt sa) = rd
written_by (ShiftBy op rd rt rs) = rd
written_by (Alu op rd rs rt) = rd
written_by (AluImm op rt rs imm) = rt
written_by (Lui rt imm) = rt
written_by (Jump link index) = if link then 31 else 0
written_by (JumpLink rd rs) = rd
written_by (Lw rt rs imm) = rt
written_by (Cas rd rs rt) = rd
written_by _ = 0

-- Whether an instruction reads a register other than register 0.
abbrev pub is_read_by : Instr → ℕ → Bool
is_read_by instr r = nat_lt 0 r && ((r == rs_of instr) || ((r == rt_of instr) || (r == expected_by instr)))

-- The access that an instruction makes, beside its own fetch.
unfoldable pub kind_of : Instr → Option Kind
kind_of (Lw rt rs imm) = Some kinds.Lw
kind_of (Sw rt rs imm) = Some kinds.Sw
kind_of (Cas rd rs rt) = Some kinds.Cas
kind_of _ = None

-- The address of that access, where a is the value of rs.
unfoldable pub address_of : Instr → ℕ → ℕ
address_of (Lw rt rs imm) a = sum_of a (sign_extended imm)
address_of (Sw rt rs imm) a = sum_of a (sign_extended imm)
address_of (Cas rd rs rt) a = a
address_of _ a = 0

-- What an instruction without an access writes, where a and b are the values of rs and rt; 0 where it writes none.
-- A link is pc + 4, the address behind the delay slot, since pc is the address of the delay slot.
unfoldable pub result_of : Instr → ℕ → ℕ → ℕ → ℕ
result_of (Shift op rd rt sa) a b pc = shifted op b sa
result_of (ShiftBy op rd rt rs) a b pc = shifted op b (a % 32)
result_of (Alu op rd rs rt) a b pc = computed op a b
result_of (AluImm op rt rs imm) a b pc = computed_with op a imm
result_of (Lui rt imm) a b pc = imm * 2 ^ 16
result_of (Jump link index) a b pc = if link then sum_of pc 4 else 0
result_of (JumpLink rd rs) a b pc = sum_of pc 4
result_of _ a b pc = 0

-- Whether bne branches, or beq where differ is false.
abbrev pub compares : Bool → ℕ → ℕ → Bool
compares differ a b = if differ then not (a == b) else a == b

-- Whether a branch that compares with zero branches: below, not below, not above, above.
abbrev pub passes : ZeroOp → ℕ → Bool
passes Bltz a = int_lt (signed a) (pos 0)
passes Bgez a = not (int_lt (signed a) (pos 0))
passes Blez a = not (int_lt (pos 0) (signed a))
passes Bgtz a = int_lt (pos 0) (signed a)

-- A branch leads as many instructions past its delay slot, whose address is pc, as its signed immediate says.
abbrev pub branch_target : ℕ → ℕ → ℕ
branch_target imm pc = (pc + 4 * sign_extended imm) % 2 ^ 32

-- A jump leads to the top four bits of pc, then the index, then two zeros.
abbrev pub jump_target : ℕ → ℕ → ℕ
jump_target index pc = pc / 2 ^ 28 * 2 ^ 28 + index * 4

-- The pc after an instruction: its target where it branches or jumps, else pc + 4.
unfoldable pub next_pc_of : Instr → ℕ → ℕ → ℕ → ℕ
next_pc_of (BranchTwo differ rs rt imm) a b pc = if compares differ a b then branch_target imm pc else sum_of pc 4
next_pc_of (BranchZero op rs imm) a b pc = if passes op a then branch_target imm pc else sum_of pc 4
next_pc_of (Jump link index) a b pc = jump_target index pc
next_pc_of (JumpReg rs) a b pc = a
next_pc_of (JumpLink rd rs) a b pc = a
next_pc_of _ a b pc = sum_of pc 4

-- The first stop of an access that holds.
abbrev pub access_stop : ℕ → ℕ → Kind → ℕ → Option Stop
access_stop code_bytes memory_bytes kind addr =
    if not (addr % width kind == 0) then Some stops.Misaligned
    else (if nat_le memory_bytes addr then Some stops.Outside
    else (if stores kind && nat_lt addr code_bytes then Some stops.CodeWrite
    else None))

-- What holds of an access that has no stop: it is aligned and inside the memory, and where it may store, past the code.
abbrev pub IsProperAddress : ℕ → ℕ → Option Kind → ℕ → Type 0
IsProperAddress code_bytes memory_bytes None addr = Unit {0}
IsProperAddress code_bytes memory_bytes (Some kind) addr =
    (addr % width kind ≡ 0) × (addr < memory_bytes) × (IsTrue (stores kind) → code_bytes ≤ addr)

-- Whether no instruction stands at an address: it is no multiple of 4, or not below the code's bytes.
abbrev pub is_off_code : ℕ → ℕ → Bool
is_off_code code_bytes dpc = not (dpc % 4 == 0) || nat_le code_bytes dpc

-- The first stop of an access that an instruction makes, where it makes one.
abbrev pub kind_stop : ℕ → ℕ → Option Kind → ℕ → Option Stop
kind_stop code_bytes memory_bytes None addr = None
kind_stop code_bytes memory_bytes (Some kind) addr = access_stop code_bytes memory_bytes kind addr

-- The first stop of an instruction in the code, where a is the value of rs.
unfoldable pub instr_stop : ℕ → ℕ → Option Instr → ℕ → Option Stop
instr_stop code_bytes memory_bytes None a = None
instr_stop code_bytes memory_bytes (Some Halt) a = Some stops.Halt
instr_stop code_bytes memory_bytes (Some instr) a = kind_stop code_bytes memory_bytes (kind_of instr) (address_of instr a)

-- The first stop at the address dpc, where instr is the instruction there and a is the value of its rs.
unfoldable pub first_stop : ℕ → ℕ → ℕ → Option Instr → ℕ → Option Stop
first_stop code_bytes memory_bytes dpc instr a =
    if is_off_code code_bytes dpc then Some stops.OffCode else instr_stop code_bytes memory_bytes instr a
