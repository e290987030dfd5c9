-- How statements are written: the tokens of each, and the text that they are printed in.
use Rattle.std.specs.Prelude.{◌≡◌, ℕ, ◌+◌, ◌-◌, ◌*◌, ◌^◌, ◌<◌, ◌≤◌, Bool, true, false, nat_lt, if◌then◌else◌, IsTrue, List, [], ◌∷◌, ◌++◌}
use Rattle.std.specs.Prelude.{map, Ok, codes}
use Rattle.std.specs.Fmt.{decimal}
use Rattle.mips_isa.specs.declared.Instr.{Instr}
use Rattle.mips_isa.specs.declared.Instr.TheVariants as instrs
use Rattle.mips_isa.specs.declared.ShiftOp.{ShiftOp}
use Rattle.mips_isa.specs.declared.ShiftOp.TheVariants.{Sll, Srl, Sra}
use Rattle.mips_isa.specs.declared.AluOp.{AluOp}
use Rattle.mips_isa.specs.declared.AluOp.TheVariants.{Add, Addu, Sub, Subu, And, Or, Xor, Nor, Slt, Sltu}
use Rattle.mips_isa.specs.declared.ImmOp.{ImmOp}
use Rattle.mips_isa.specs.declared.ImmOp.TheVariants.{Addi, Addiu, Slti, Sltiu, Andi, Ori, Xori}
use Rattle.mips_isa.specs.declared.ZeroOp.{ZeroOp}
use Rattle.mips_isa.specs.declared.ZeroOp.TheVariants.{Bltz, Bgez, Blez, Bgtz}
use Rattle.asm_token.specs.declared.number.Number.{Number}
use Rattle.asm_token.specs.declared.token.Token.{Token}
use Rattle.asm_token.specs.declared.token.Token.TheVariants as tokens
use Rattle.asm_token.specs.Printing.{is_name, Writes, printed_line}
use Rattle.asm_parse.specs.declared.statement.Body.{Body}
use Rattle.asm_parse.specs.declared.statement.Body.TheVariants.{Label, Text, Data, DataAt, Word, Space, Plain, BranchTo, JumpTo, Load}
use Rattle.asm_parse.specs.declared.statement.Part.{Part}
use Rattle.asm_parse.specs.declared.statement.Part.TheVariants as parts
use Rattle.asm_parse.specs.declared.statement.Statement.{Statement}
use Rattle.asm_parse.specs.declared.statement.Value.{Value}
use Rattle.asm_parse.specs.declared.statement.Value.TheVariants as values
use Rattle.asm_parse.specs.Forms.{is_part}
use Rattle.asm_parse.specs.Lines.{line_of, on_line, statements_of}
use Rattle.asm_parse.specs.Statements.{part_moved, IsProperBody}

-- The mnemonics of the MIPS32 manuals.

abbrev pub shift_name : ShiftOp → List ℕ
shift_name Sll = codes "sll"
shift_name Srl = codes "srl"
shift_name Sra = codes "sra"

abbrev pub shift_by_name : ShiftOp → List ℕ
shift_by_name Sll = codes "sllv"
shift_by_name Srl = codes "srlv"
shift_by_name Sra = codes "srav"

abbrev pub alu_name : AluOp → List ℕ
alu_name Add = codes "add"
alu_name Addu = codes "addu"
alu_name Sub = codes "sub"
alu_name Subu = codes "subu"
alu_name And = codes "and"
alu_name Or = codes "or"
alu_name Xor = codes "xor"
alu_name Nor = codes "nor"
alu_name Slt = codes "slt"
alu_name Sltu = codes "sltu"

abbrev pub imm_name : ImmOp → List ℕ
imm_name Addi = codes "addi"
imm_name Addiu = codes "addiu"
imm_name Slti = codes "slti"
imm_name Sltiu = codes "sltiu"
imm_name Andi = codes "andi"
imm_name Ori = codes "ori"
imm_name Xori = codes "xori"

abbrev pub branch_name : Bool → List ℕ
branch_name differ = if differ then codes "bne" else codes "beq"

abbrev pub zero_name : ZeroOp → List ℕ
zero_name Bltz = codes "bltz"
zero_name Bgez = codes "bgez"
zero_name Blez = codes "blez"
zero_name Bgtz = codes "bgtz"

abbrev pub jump_name : Bool → List ℕ
jump_name link = if link then codes "jal" else codes "j"

-- Operands.

-- `$` and the number of a register
abbrev pub register : ℕ → Token
register r = tokens.Register (decimal r)

abbrev pub number : ℕ → Token
number n = tokens.Number (record { negative = false; magnitude = n })

-- sixteen bits as a number with a sign, in two's complement
abbrev pub signed_of : ℕ → Number
signed_of imm = if nat_lt imm 32768 then record { negative = false; magnitude = imm }
    else record { negative = true; magnitude = 65536 - imm }

abbrev pub signed_number : ℕ → Token
signed_number imm = tokens.Number (signed_of imm)

-- logical immediates have no sign
abbrev pub immediate : ImmOp → ℕ → Token
immediate Andi imm = number imm
immediate Ori imm = number imm
immediate Xori imm = number imm
immediate other imm = signed_number imm

abbrev pub value_token : Value → Token
value_token (values.Number n) = number n
value_token (values.Of label) = tokens.Name label

-- `offset(rs)`
abbrev pub address : ℕ → ℕ → List Token
address imm rs = signed_number imm ∷ tokens.Open ∷ register rs ∷ tokens.Close ∷ []

-- operands, a comma between each two
abbrev pub separated : List (List Token) → List Token
separated [] = []
separated (first ∷ []) = first
separated (first ∷ next ∷ others) = first ++ tokens.Comma ∷ separated (next ∷ others)

abbrev pub one : Token → List Token
one t = t ∷ []

-- a name, and operands behind it
abbrev pub with_operands : List ℕ → List (List Token) → List Token
with_operands name operands = tokens.Name name ∷ separated operands

-- Statements.

abbrev pub branch_tokens : Instr → Token → List Token
branch_tokens (instrs.BranchTwo differ rs rt imm) place =
    with_operands (branch_name differ) (one (register rs) ∷ one (register rt) ∷ one place ∷ [])
branch_tokens (instrs.BranchZero op rs imm) place = with_operands (zero_name op) (one (register rs) ∷ one place ∷ [])
branch_tokens other place = []

abbrev pub instr_tokens : Instr → List Token
instr_tokens (instrs.Shift op rd rt sa) = with_operands (shift_name op) (one (register rd) ∷ one (register rt) ∷ one (number sa) ∷ [])
instr_tokens (instrs.ShiftBy op rd rt rs) =
    with_operands (shift_by_name op) (one (register rd) ∷ one (register rt) ∷ one (register rs) ∷ [])
instr_tokens (instrs.Alu op rd rs rt) = with_operands (alu_name op) (one (register rd) ∷ one (register rs) ∷ one (register rt) ∷ [])
instr_tokens (instrs.AluImm op rt rs imm) =
    with_operands (imm_name op) (one (register rt) ∷ one (register rs) ∷ one (immediate op imm) ∷ [])
instr_tokens (instrs.Lui rt imm) = with_operands (codes "lui") (one (register rt) ∷ one (number imm) ∷ [])
instr_tokens (instrs.BranchTwo differ rs rt imm) = branch_tokens (instrs.BranchTwo differ rs rt imm) (signed_number imm)
instr_tokens (instrs.BranchZero op rs imm) = branch_tokens (instrs.BranchZero op rs imm) (signed_number imm)
instr_tokens (instrs.Jump link index) = with_operands (jump_name link) (one (number (4 * index)) ∷ [])
instr_tokens (instrs.JumpReg rs) = with_operands (codes "jr") (one (register rs) ∷ [])
instr_tokens (instrs.JumpLink rd rs) = with_operands (codes "jalr") (one (register rd) ∷ one (register rs) ∷ [])
instr_tokens (instrs.Lw rt rs imm) = with_operands (codes "lw") (one (register rt) ∷ address imm rs ∷ [])
instr_tokens (instrs.Sw rt rs imm) = with_operands (codes "sw") (one (register rt) ∷ address imm rs ∷ [])
instr_tokens (instrs.Cas rd rs rt) = with_operands (codes "cas") (one (register rd) ∷ one (register rs) ∷ one (register rt) ∷ [])
instr_tokens instrs.Halt = with_operands (codes "halt") []

-- The tokens of a statement.
abbrev pub body_tokens : Body → List Token
body_tokens (Label label) = tokens.Name label ∷ tokens.Colon ∷ []
body_tokens Text = with_operands (codes ".text") []
body_tokens Data = with_operands (codes ".data") []
body_tokens (DataAt start) = with_operands (codes ".data") (one (number start) ∷ [])
body_tokens (Word value) = with_operands (codes ".word") (one (value_token value) ∷ [])
body_tokens (Space bytes) = with_operands (codes ".space") (one (number bytes) ∷ [])
body_tokens (Plain instr) = instr_tokens instr
body_tokens (BranchTo instr label) = branch_tokens instr (tokens.Name label)
body_tokens (JumpTo link label) = with_operands (jump_name link) (one (tokens.Name label) ∷ [])
body_tokens (Load rt value) = with_operands (codes "la") (one (register rt) ∷ one (value_token value) ∷ [])

-- the immediate of a branch
abbrev pub branch_imm : Instr → ℕ
branch_imm (instrs.BranchTwo differ rs rt imm) = imm
branch_imm (instrs.BranchZero op rs imm) = imm
branch_imm other = 0

abbrev pub IsWord : Value → Type 0
IsWord (values.Number n) = n < 2 ^ 32
IsWord (values.Of label) = Unit {0}

-- Numbers fit: words have 32 bits, a space has at most 16,777,216 bytes, and a branch to a label holds no immediate.
abbrev pub HasNumbers : Body → Type 0
HasNumbers (DataAt start) = start < 2 ^ 32
HasNumbers (Word value) = IsWord value
HasNumbers (Space bytes) = bytes ≤ 2 ^ 24
HasNumbers (BranchTo instr label) = branch_imm instr ≡ 0
HasNumbers (Load rt value) = IsWord value
HasNumbers other = Unit {0}

-- data stands in the data part, instructions in the text part, and all else in either
abbrev pub body_stands : Body → Part → Bool
body_stands (Label label) part = true
body_stands Text part = true
body_stands Data part = true
body_stands (DataAt start) part = true
body_stands (Word value) part = is_part parts.Data part
body_stands (Space bytes) part = is_part parts.Data part
body_stands instruction part = is_part parts.Text part

-- any number of labels, each with a colon
abbrev pub label_tokens : List (List ℕ) → List Token
label_tokens [] = []
label_tokens (label ∷ labels) = tokens.Name label ∷ tokens.Colon ∷ label_tokens labels

-- A line that writes labels and a statement is read as these labels and this statement, and what part is in force behind it.
abbrev pub WrittenStatementsAreRead : Type 0
WrittenStatementsAreRead =
    (part : Part) (labels : List (List ℕ)) (body : Body) (line : List ℕ)
    → IsProperBody body → HasNumbers body → IsTrue (body_stands body part) → Writes line (label_tokens labels ++ body_tokens body)
    → line_of part line ≡ Ok (map Label labels ++ body ∷ [], part_moved part body)

-- a line of labels alone, and a line of nothing
abbrev pub WrittenLabelsAreRead : Type 0
WrittenLabelsAreRead =
    (part : Part) (labels : List (List ℕ)) (line : List ℕ) → Writes line (label_tokens labels)
    → line_of part line ≡ Ok (map Label labels, part)

-- whether the labels that a statement names are names
abbrev pub value_named : Value → Bool
value_named (values.Number n) = true
value_named (values.Of label) = is_name label

abbrev pub body_named : Body → Bool
body_named (Label label) = is_name label
body_named (Word value) = value_named value
body_named (BranchTo instr label) = is_name label
body_named (JumpTo link label) = is_name label
body_named (Load rt value) = value_named value
body_named other = true

-- Statements that can be printed behind a part.
abbrev pub AreWritable : Part → List Body → Type 0
AreWritable part [] = Unit {0}
AreWritable part (body ∷ bodies) =
    IsProperBody body × HasNumbers body × IsTrue (body_named body) × IsTrue (body_stands body part)
    × AreWritable (part_moved part body) bodies

-- A text of a line for each statement.
abbrev pub printed_text : List Body → List ℕ
printed_text [] = []
printed_text (body ∷ bodies) = printed_line (body_tokens body) ++ 10 ∷ printed_text bodies

-- statements on lines of their own, from a line on
abbrev pub on_lines : ℕ → List Body → List Statement
on_lines line [] = []
on_lines line (body ∷ bodies) = on_line line body ∷ on_lines (line + 1) bodies

-- The statements of a text that is printed are those that were printed, each on its own line.
abbrev pub PrintedStatementsAreRead : Type 0
PrintedStatementsAreRead = (bodies : List Body) → AreWritable parts.Text bodies
    → statements_of (printed_text bodies) ≡ Ok (on_lines 1 bodies)
