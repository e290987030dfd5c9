-- The statements that there are, what follows the name of each, and the part in which each stands.
use Rattle.std.specs.Prelude.{ℕ, ◌-◌, ◌^◌, Bool, true, false, List, [], ◌∷◌, Option, codes}
use Rattle.mips_isa.specs.declared.ShiftOp.TheVariants.{Sll, Srl, Sra}
use Rattle.mips_isa.specs.declared.AluOp.TheVariants.{Add, Addu, Sub, Subu, And, Or, Xor, Nor, Slt, Sltu}
use Rattle.mips_isa.specs.declared.ImmOp.TheVariants.{Addi, Addiu, Slti, Sltiu, Andi, Ori, Xori}
use Rattle.mips_isa.specs.declared.ZeroOp.TheVariants.{Bltz, Bgez, Blez, Bgtz}
use Rattle.kmp_base.specs.Names.{named}
use Rattle.asm_parse.specs.declared.bounds.Bounds.{Bounds}
use Rattle.asm_parse.specs.declared.forms.Form.{Form}
use Rattle.asm_parse.specs.declared.forms.Form.TheVariants.{Shift, ShiftBy, Alu, Signed, Unsigned, Lui, BranchTwo, BranchZero, Jump}
use Rattle.asm_parse.specs.declared.forms.Form.TheVariants.{JumpReg, JumpLink, Lw, Sw, Cas, Halt, Nop, Move, Branch, Li, La, Text, Data}
use Rattle.asm_parse.specs.declared.forms.Form.TheVariants.{Word, Space, Globl}
use Rattle.asm_parse.specs.declared.forms.Slot.TheVariants.{Rd, Rs, Rt}
use Rattle.asm_parse.specs.declared.forms.Kind.{Kind}
use Rattle.asm_parse.specs.declared.forms.Kind.TheVariants.{Register, Number, Place, Label, Address, Link}
use Rattle.asm_parse.specs.declared.forms.Kinds.{Kinds}
use Rattle.asm_parse.specs.declared.forms.Kinds.TheVariants as several
use Rattle.asm_parse.specs.declared.statement.Part.{Part}
use Rattle.asm_parse.specs.declared.statement.Part.TheVariants as parts

-- the names, with the form of each
abbrev pub statement_forms : List (List ℕ × Form)
statement_forms =
    (codes "sll", Shift Sll) ∷
    (codes "srl", Shift Srl) ∷
    (codes "sra", Shift Sra) ∷
    (codes "sllv", ShiftBy Sll) ∷
    (codes "srlv", ShiftBy Srl) ∷
    (codes "srav", ShiftBy Sra) ∷
    (codes "add", Alu Add) ∷
    (codes "addu", Alu Addu) ∷
    (codes "sub", Alu Sub) ∷
    (codes "subu", Alu Subu) ∷
    (codes "and", Alu And) ∷
    (codes "or", Alu Or) ∷
    (codes "xor", Alu Xor) ∷
    (codes "nor", Alu Nor) ∷
    (codes "slt", Alu Slt) ∷
    (codes "sltu", Alu Sltu) ∷
    (codes "addi", Signed Addi) ∷
    (codes "addiu", Signed Addiu) ∷
    (codes "slti", Signed Slti) ∷
    (codes "sltiu", Signed Sltiu) ∷
    (codes "andi", Unsigned Andi) ∷
    (codes "ori", Unsigned Ori) ∷
    (codes "xori", Unsigned Xori) ∷
    (codes "lui", Lui) ∷
    (codes "beq", BranchTwo false) ∷
    (codes "bne", BranchTwo true) ∷
    (codes "bltz", BranchZero Bltz) ∷
    (codes "bgez", BranchZero Bgez) ∷
    (codes "blez", BranchZero Blez) ∷
    (codes "bgtz", BranchZero Bgtz) ∷
    (codes "j", Jump false) ∷
    (codes "jal", Jump true) ∷
    (codes "jr", JumpReg) ∷
    (codes "jalr", JumpLink) ∷
    (codes "lw", Lw) ∷
    (codes "sw", Sw) ∷
    (codes "cas", Cas) ∷
    (codes "halt", Halt) ∷
    (codes "nop", Nop) ∷
    (codes "move", Move) ∷
    (codes "b", Branch) ∷
    (codes "li", Li) ∷
    (codes "la", La) ∷
    (codes ".text", Text) ∷
    (codes ".data", Data) ∷
    (codes ".word", Word) ∷
    (codes ".space", Space) ∷
    (codes ".globl", Globl) ∷ []

-- the statement of a name
unfoldable pub form_of : List ℕ → Option Form
form_of name = named statement_forms name

-- the amount of a shift
abbrev pub amount : Bounds
amount = record { below = 0; above = 31; aligned = false }

-- a number of sixteen bits with a sign, from -32,768 to 32,767
abbrev pub signed : Bounds
signed = record { below = 32768; above = 32767; aligned = false }

-- a number of sixteen bits without a sign
abbrev pub unsigned : Bounds
unsigned = record { below = 0; above = 65535; aligned = false }

-- any number that is written; a negative one is meant modulo 2 ^ 32
abbrev pub word : Bounds
word = record { below = 2 ^ 31; above = 2 ^ 32 - 1; aligned = false }

-- the byte address of a jump
abbrev pub target : Bounds
target = record { below = 0; above = 2 ^ 28 - 1; aligned = true }

-- a number of bytes, up to 16,777,216
abbrev pub space : Bounds
space = record { below = 0; above = 2 ^ 24; aligned = true }

-- where a segment starts
abbrev pub address : Bounds
address = record { below = 2 ^ 31; above = 2 ^ 32 - 1; aligned = true }

-- the register fields of the MIPS32 instruction words
abbrev pub rd : Kind
rd = Register Rd

abbrev pub rs : Kind
rs = Register Rs

abbrev pub rt : Kind
rt = Register Rt

-- operands, as a list
abbrev pub list_of : Kinds → List Kind
list_of several.None = []
list_of (several.One first) = first ∷ []
list_of (several.Two first second) = first ∷ second ∷ []
list_of (several.Three first second third) = first ∷ second ∷ third ∷ []

-- The operands of a statement, from the left, in the order of the MIPS32 manuals. A place is a label or a number, an
-- address is `offset(rs)`, and a link is `rd, rs` or `rs`. Those of `.data`, `.word` and `.space` are read apart.
abbrev pub kinds_of : Form → List Kind
kinds_of (Shift op) = rd ∷ rt ∷ Number amount ∷ []
kinds_of (ShiftBy op) = rd ∷ rt ∷ rs ∷ []
kinds_of (Alu op) = rd ∷ rs ∷ rt ∷ []
kinds_of (Signed op) = rt ∷ rs ∷ Number signed ∷ []
kinds_of (Unsigned op) = rt ∷ rs ∷ Number unsigned ∷ []
kinds_of Lui = rt ∷ Number unsigned ∷ []
kinds_of (BranchTwo differ) = rs ∷ rt ∷ Place signed ∷ []
kinds_of (BranchZero op) = rs ∷ Place signed ∷ []
kinds_of (Jump link) = Place target ∷ []
kinds_of JumpReg = rs ∷ []
kinds_of JumpLink = Link ∷ []
kinds_of Lw = rt ∷ Address ∷ []
kinds_of Sw = rt ∷ Address ∷ []
kinds_of Cas = rd ∷ rs ∷ rt ∷ []
kinds_of Halt = []
kinds_of Nop = []
kinds_of Move = rd ∷ rs ∷ []
kinds_of Branch = Place signed ∷ []
kinds_of Li = rt ∷ Number word ∷ []
kinds_of La = rt ∷ Place word ∷ []
kinds_of Text = []
kinds_of Data = []
kinds_of Word = []
kinds_of Space = []
kinds_of Globl = Label ∷ []

abbrev pub is_part : Part → Part → Bool
is_part parts.Text parts.Text = true
is_part parts.Data parts.Data = true
is_part parts.Text parts.Data = false
is_part parts.Data parts.Text = false

-- `.word` and `.space` stand in the data part, instructions in the text part, and the other directives in either.
abbrev pub stands_in : Form → Part → Bool
stands_in Text part = true
stands_in Data part = true
stands_in Globl part = true
stands_in Word part = is_part parts.Data part
stands_in Space part = is_part parts.Data part
stands_in instruction part = is_part parts.Text part

-- the part that is in force behind a statement
abbrev pub part_behind : Form → Part → Part
part_behind Text part = parts.Text
part_behind Data part = parts.Data
part_behind other part = part
