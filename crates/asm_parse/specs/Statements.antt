-- What a statement is, by what stands behind its name.
use Rattle.std.specs.Prelude.{◌≡◌, ℕ, ◌/◌, ◌%◌, ◌^◌, ◌<◌, Bool, false, List, [], ◌∷◌, Option, Some, None, option_to_list, Result, Ok, Err}
use Rattle.std.specs.Prelude.{All}
use Rattle.mips_isa.specs.declared.Instr.{Instr}
use Rattle.mips_isa.specs.declared.Instr.TheVariants as instrs
use Rattle.mips_isa.specs.declared.ShiftOp.TheVariants.{Sll}
use Rattle.mips_isa.specs.declared.AluOp.TheVariants.{Addu}
use Rattle.mips_isa.specs.Words.{IsProper}
use Rattle.asm_token.specs.declared.fault.AsmCause.{AsmCause}
use Rattle.asm_token.specs.declared.fault.AsmCause.TheVariants.{BadOperand}
use Rattle.asm_token.specs.declared.token.Token.{Token}
use Rattle.asm_token.specs.declared.token.Token.TheVariants as tokens
use Rattle.asm_token.specs.declared.number.Number.{Number}
use Rattle.kmp_base.specs.Bind.{◌>>=◌}
use Rattle.asm_token.specs.Numbers.{word_of}
use Rattle.asm_parse.specs.declared.bounds.Bounds.{Bounds}
use Rattle.asm_parse.specs.declared.forms.Form.{Form}
use Rattle.asm_parse.specs.declared.forms.Form.TheVariants as forms
use Rattle.asm_parse.specs.declared.operands.Operands.{Operands}
use Rattle.asm_parse.specs.declared.statement.Body.{Body}
use Rattle.asm_parse.specs.declared.statement.Body.TheVariants.{Text, Data, DataAt, Word, Space, Plain, BranchTo, JumpTo, Load}
use Rattle.asm_parse.specs.declared.statement.Part.{Part}
use Rattle.asm_parse.specs.declared.statement.Part.TheVariants as parts
use Rattle.asm_parse.specs.declared.statement.Statement.{Statement}
use Rattle.asm_parse.specs.declared.statement.Value.{Value}
use Rattle.asm_parse.specs.declared.statement.Value.TheVariants as values
use Rattle.asm_parse.specs.Forms.{kinds_of, word, space, address}
use Rattle.asm_parse.specs.Operands.{number_in, value_of, end_in, operands_in}

-- The number of a value; a label has none, and gives 0.
abbrev pub number_of : Value → ℕ
number_of (values.Number n) = n
number_of (values.Of label) = 0

-- the lower half of a word
abbrev pub lower_half : ℕ → ℕ
lower_half n = n % 2 ^ 16

-- a branch to a label, or by the immediate that it holds
abbrev pub branch : Instr → Value → Body
branch instr (values.Number n) = Plain instr
branch instr (values.Of label) = BranchTo instr label

-- a jump to a label, or to a byte address
abbrev pub jump : Bool → Value → Body
jump link (values.Number n) = Plain (instrs.Jump link (n / 4 % 2 ^ 26))
jump link (values.Of label) = JumpTo link label

-- What a statement is, by its operands. `.globl` is nothing.
unfoldable pub body_of : Form → Operands → Option Body
body_of (forms.Shift op) o = Some (Plain (instrs.Shift op o.rd o.rt (number_of o.value % 32)))
body_of (forms.ShiftBy op) o = Some (Plain (instrs.ShiftBy op o.rd o.rt o.rs))
body_of (forms.Alu op) o = Some (Plain (instrs.Alu op o.rd o.rs o.rt))
body_of (forms.Signed op) o = Some (Plain (instrs.AluImm op o.rt o.rs (lower_half (number_of o.value))))
body_of (forms.Unsigned op) o = Some (Plain (instrs.AluImm op o.rt o.rs (lower_half (number_of o.value))))
body_of forms.Lui o = Some (Plain (instrs.Lui o.rt (lower_half (number_of o.value))))
body_of (forms.BranchTwo differ) o = Some (branch (instrs.BranchTwo differ o.rs o.rt (lower_half (number_of o.value))) o.value)
body_of (forms.BranchZero op) o = Some (branch (instrs.BranchZero op o.rs (lower_half (number_of o.value))) o.value)
body_of (forms.Jump link) o = Some (jump link o.value)
body_of forms.JumpReg o = Some (Plain (instrs.JumpReg o.rs))
body_of forms.JumpLink o = Some (Plain (instrs.JumpLink o.rd o.rs))
body_of forms.Lw o = Some (Plain (instrs.Lw o.rt o.rs (lower_half (number_of o.value))))
body_of forms.Sw o = Some (Plain (instrs.Sw o.rt o.rs (lower_half (number_of o.value))))
body_of forms.Cas o = Some (Plain (instrs.Cas o.rd o.rs o.rt))
body_of forms.Halt o = Some (Plain instrs.Halt)
body_of forms.Nop o = Some (Plain (instrs.Shift Sll 0 0 0))
body_of forms.Move o = Some (Plain (instrs.Alu Addu o.rd o.rs 0))
body_of forms.Branch o = Some (branch (instrs.BranchTwo false 0 0 (lower_half (number_of o.value))) o.value)
body_of forms.Li o = Some (Load o.rt o.value)
body_of forms.La o = Some (Load o.rt o.value)
body_of forms.Text o = Some Text
body_of forms.Data o = Some Data
body_of forms.Word o = None
body_of forms.Space o = None
body_of forms.Globl o = None

-- a number alone
abbrev pub lone_number_in : Bounds → List Token → Result Number AsmCause
lone_number_in bounds ts = number_in bounds ts >>= λ n. end_in n.0 n.1

-- what follows `.data`: nothing, or where a segment starts
abbrev pub data_in : List Token → Result Body AsmCause
data_in [] = Ok Data
data_in (t ∷ ts) = lone_number_in address (t ∷ ts) >>= λ n. Ok (DataAt (word_of n))

-- what follows `.space`: a number of bytes
abbrev pub space_in : List Token → Result Body AsmCause
space_in ts = lone_number_in space ts >>= λ n. Ok (Space (word_of n))

-- what follows the first operand of `.word`: values, each behind a comma
unfoldable pub more_words_in : List Token → Result (List Body) AsmCause
more_words_in [] = Ok []
more_words_in (tokens.Comma ∷ t ∷ ts) = do
  value ← value_of word t
  others ← more_words_in ts
  Ok (Word value ∷ others)
more_words_in other = Err BadOperand

-- what follows `.word`: one value or more, a comma between each two
unfoldable pub words_in : List Token → Result (List Body) AsmCause
words_in [] = Err BadOperand
words_in (t ∷ ts) = do
  value ← value_of word t
  others ← more_words_in ts
  Ok (Word value ∷ others)

-- What a statement is, by the tokens behind its name.
unfoldable pub statement_in : Form → List Token → Result (List Body) AsmCause
statement_in forms.Data ts = data_in ts >>= λ body. Ok (body ∷ [])
statement_in forms.Word ts = words_in ts
statement_in forms.Space ts = space_in ts >>= λ body. Ok (body ∷ [])
statement_in form ts = operands_in (kinds_of form) ts >>= λ operands. Ok (option_to_list (body_of form operands))

-- a branch, which has an immediate for the distance of its label
abbrev pub IsBranch : Instr → Type 0
IsBranch (instrs.BranchTwo differ rs rt imm) = Unit {0}
IsBranch (instrs.BranchZero op rs imm) = Unit {0}
IsBranch other = ⊥

-- Instructions are proper, the instruction of a branch is one, and starts and sizes are multiples of 4.
abbrev pub IsProperBody : Body → Type 0
IsProperBody (Plain instr) = IsProper instr
IsProperBody (BranchTo instr label) = IsProper instr × IsBranch instr
IsProperBody (Load rt value) = rt < 32
IsProperBody (DataAt start) = start % 4 ≡ 0
IsProperBody (Space bytes) = bytes % 4 ≡ 0
IsProperBody other = Unit {0}

-- each statement is proper
abbrev pub AreProper : List Statement → Type 0
AreProper statements = All (λ statement. IsProperBody statement.body) statements

-- the part in force behind a statement
abbrev pub part_moved : Part → Body → Part
part_moved part Text = parts.Text
part_moved part Data = parts.Data
part_moved part (DataAt start) = parts.Data
part_moved part other = part
