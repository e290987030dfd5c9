-- A text that is printed is read as the statements that were printed.
use Rattle.std.proofs.Common.{◌≡◌, ℕ, ◌+◌, ◌*◌, ◌^◌, ◌<◌, Bool, true, false, List, [], ◌∷◌, Ok, refl, ap, ◌∙◌, arith}
use Rattle.std.specs.Prelude.{nat_lt}
use Rattle.std.specs.Fmt.{digits}
use Rattle.std.specs.List.{AllByRecursion, enumerate_from}
use Rattle.std.proofs.lemmas.Bool.{agree_below, agree_below_at}
use Rattle.std.proofs.lemmas.Bool.Decides.{nat_tests}
use Rattle.std_laws.proofs.ListLaws.{list_all-from_recursion}
use Rattle.mips_isa.specs.Words.{IsProper}
use Rattle.mips_isa.specs.declared.Instr.{Instr}
use Rattle.mips_isa.specs.declared.Instr.TheVariants as instrs
use Rattle.mips_isa.specs.declared.ShiftOp.{ShiftOp}
use Rattle.mips_isa.specs.declared.ShiftOp.TheVariants.{Sll, Srl, Sra}
use Rattle.mips_isa.specs.declared.AluOp.{AluOp}
use Rattle.mips_isa.specs.declared.AluOp.TheVariants.{Add, Addu, Sub, Subu, And, Or, Xor, Nor, Slt, Sltu}
use Rattle.mips_isa.specs.declared.ImmOp.{ImmOp}
use Rattle.mips_isa.specs.declared.ImmOp.TheVariants.{Addi, Addiu, Slti, Sltiu, Andi, Ori, Xori}
use Rattle.mips_isa.specs.declared.ZeroOp.{ZeroOp}
use Rattle.mips_isa.specs.declared.ZeroOp.TheVariants.{Bltz, Bgez, Blez, Bgtz}
use Rattle.asm_token.specs.declared.token.Token.{Token}
use Rattle.asm_token.specs.declared.token.Token.TheVariants as tokens
use Rattle.asm_token.specs.Printing.{is_name, can_be_written, printed_line}
use Rattle.asm_token.proofs.PrintingLaws.{printed_writes, printed_bytes}
use Rattle.asm_parse.specs.declared.statement.Body.{Body}
use Rattle.asm_parse.specs.declared.statement.Body.TheVariants.{Label, Text, Data, DataAt, Word, Space, Plain, BranchTo, JumpTo, Load}
use Rattle.asm_parse.specs.declared.statement.Part.{Part}
use Rattle.asm_parse.specs.declared.statement.Part.TheVariants as parts
use Rattle.asm_parse.specs.declared.statement.Value.{Value}
use Rattle.asm_parse.specs.declared.statement.Value.TheVariants as values
use Rattle.asm_parse.specs.Lines.{lines_of, statements_from, statements_of}
use Rattle.asm_parse.specs.Statements.{part_moved, IsProperBody}
use Rattle.asm_parse.specs.Printing.{shift_name, shift_by_name, alu_name, imm_name, branch_name, zero_name, jump_name, register, number}
use Rattle.asm_parse.specs.Printing.{signed_number, immediate, value_token, branch_tokens, instr_tokens, body_tokens, IsWord, HasNumbers}
use Rattle.asm_parse.specs.Printing.{value_named, body_named, AreWritable, printed_text, on_lines}
use Rattle.asm_parse.proofs.LinesLaws.{line_split, statement_goes_on}
use Rattle.asm_parse.proofs.PrintingLemmas.{statement_read}

-- The tokens of a statement can be written.

shift_named : (op : ShiftOp) → is_name (shift_name op) ≡ true
shift_named Sll = refl
shift_named Srl = refl
shift_named Sra = refl

shift_by_named : (op : ShiftOp) → is_name (shift_by_name op) ≡ true
shift_by_named Sll = refl
shift_by_named Srl = refl
shift_by_named Sra = refl

alu_named : (op : AluOp) → is_name (alu_name op) ≡ true
alu_named Add = refl
alu_named Addu = refl
alu_named Sub = refl
alu_named Subu = refl
alu_named And = refl
alu_named Or = refl
alu_named Xor = refl
alu_named Nor = refl
alu_named Slt = refl
alu_named Sltu = refl

imm_named : (op : ImmOp) → is_name (imm_name op) ≡ true
imm_named Addi = refl
imm_named Addiu = refl
imm_named Slti = refl
imm_named Sltiu = refl
imm_named Andi = refl
imm_named Ori = refl
imm_named Xori = refl

branch_named : (differ : Bool) → is_name (branch_name differ) ≡ true
branch_named true = refl
branch_named false = refl

zero_named : (op : ZeroOp) → is_name (zero_name op) ≡ true
zero_named Bltz = refl
zero_named Bgez = refl
zero_named Blez = refl
zero_named Bgtz = refl

jump_named : (link : Bool) → is_name (jump_name link) ≡ true
jump_named true = refl
jump_named false = refl

all_written : agree_below (λ r. can_be_written (register r)) (λ r. true) 32 ≡ true
unfolding digits
all_written = refl

register_written : (r : ℕ) → r < 32 → can_be_written (register r) ≡ true
register_written r lt = agree_below_at (λ k. can_be_written (register k)) (λ k. true) 32 r all_written lt

number_written : (n : ℕ) → n < 2 ^ 32 → can_be_written (number n) ≡ true
number_written n lt = grind (arith, nat_tests)

signed_by : (imm : ℕ) (low : Bool) → nat_lt imm 32768 ≡ low → imm < 2 ^ 16 → can_be_written (signed_number imm) ≡ true
signed_by imm true is lt = rw is (grind (arith, nat_tests))
signed_by imm false is lt = rw is (grind (arith, nat_tests))

signed_written : (imm : ℕ) → imm < 2 ^ 16 → can_be_written (signed_number imm) ≡ true
signed_written imm lt = signed_by imm (nat_lt imm 32768) refl lt

immediate_written : (op : ImmOp) (imm : ℕ) → imm < 2 ^ 16 → can_be_written (immediate op imm) ≡ true
immediate_written Andi imm lt = number_written imm (omega arith)
immediate_written Ori imm lt = number_written imm (omega arith)
immediate_written Xori imm lt = number_written imm (omega arith)
immediate_written other imm lt = signed_written imm lt

value_written : (value : Value) → IsWord value → value_named value ≡ true → can_be_written (value_token value) ≡ true
value_written (values.Number n) low named = number_written n low
value_written (values.Of label) low named = named

-- each token can be
abbrev AreWritten : List Token → Type 0
AreWritten ts = AllByRecursion (λ t. can_be_written t ≡ true) ts

branch_written : (instr : Instr) (place : Token) → IsProper instr → can_be_written place ≡ true → AreWritten (branch_tokens instr place)
branch_written (instrs.BranchTwo differ x y imm) place proper written =
    (branch_named differ, (register_written x proper.0, (refl, (register_written y proper.1, (refl, (written, tt))))))
branch_written (instrs.BranchZero op x imm) place proper written = (zero_named op, (register_written x proper.0, (refl, (written, tt))))
branch_written other place proper written = tt

instr_written : (instr : Instr) → IsProper instr → AreWritten (instr_tokens instr)
instr_written (instrs.Shift op x y sa) proper =
    let amount = number_written sa (omega (arith, proper.2)) in
    (shift_named op, (register_written x proper.0, (refl, (register_written y proper.1, (refl, (amount, tt))))))
instr_written (instrs.ShiftBy op x y z) proper =
    (shift_by_named op, (register_written x proper.0, (refl, (register_written y proper.1, (refl, (register_written z proper.2, tt))))))
instr_written (instrs.Alu op x y z) proper =
    (alu_named op, (register_written x proper.0, (refl, (register_written y proper.1, (refl, (register_written z proper.2, tt))))))
instr_written (instrs.AluImm op x y imm) proper =
    (imm_named op, (register_written x proper.0, (refl, (register_written y proper.1, (refl, (immediate_written op imm proper.2, tt))))))
instr_written (instrs.Lui x imm) proper = (refl, (register_written x proper.0, (refl, (number_written imm (omega (arith, proper.1)), tt))))
instr_written (instrs.BranchTwo differ x y imm) proper =
    branch_written (instrs.BranchTwo differ x y imm) (signed_number imm) proper (signed_written imm proper.2)
instr_written (instrs.BranchZero op x imm) proper =
    branch_written (instrs.BranchZero op x imm) (signed_number imm) proper (signed_written imm proper.1)
instr_written (instrs.Jump link index) proper = (jump_named link, (number_written (4 * index) (omega (arith, proper)), tt))
instr_written (instrs.JumpReg x) proper = (refl, (register_written x proper, tt))
instr_written (instrs.JumpLink x y) proper = (refl, (register_written x proper.0, (refl, (register_written y proper.1, tt))))
instr_written (instrs.Lw x y imm) proper =
    (refl, (register_written x proper.0, (refl, (signed_written imm proper.2, (refl, (register_written y proper.1, (refl, tt)))))))
instr_written (instrs.Sw x y imm) proper =
    (refl, (register_written x proper.0, (refl, (signed_written imm proper.2, (refl, (register_written y proper.1, (refl, tt)))))))
instr_written (instrs.Cas x y z) proper =
    (refl, (register_written x proper.0, (refl, (register_written y proper.1, (refl, (register_written z proper.2, tt))))))
instr_written instrs.Halt proper = (refl, tt)

body_written : (body : Body) → IsProperBody body → HasNumbers body → body_named body ≡ true → AreWritten (body_tokens body)
body_written (Label label) proper fits named = (named, (refl, tt))
body_written Text proper fits named = (refl, tt)
body_written Data proper fits named = (refl, tt)
body_written (DataAt start) proper fits named = (refl, (number_written start fits, tt))
body_written (Word value) proper fits named = (refl, (value_written value fits named, tt))
body_written (Space bytes) proper fits named = (refl, (number_written bytes (omega (arith, fits)), tt))
body_written (Plain instr) proper fits named = instr_written instr proper
body_written (BranchTo instr label) proper fits named = branch_written instr (tokens.Name label) proper.0 named
body_written (JumpTo link label) proper fits named = (jump_named link, (named, tt))
body_written (Load x value) proper fits named = (refl, (register_written x proper, (refl, (value_written value fits named, tt))))

-- Lines.

printed_from : (part : Part) (number : ℕ) (bodies : List Body) → AreWritable part bodies
    → statements_from part (enumerate_from number (lines_of (printed_text bodies))) ≡ Ok (on_lines number bodies)
unfolding lines_of statements_from
printed_from part number [] are = refl
printed_from part number (body ∷ bodies) are =
    let ts = body_tokens body in
    let written = list_all-from_recursion can_be_written ts (body_written body are.0 are.1 are.2) in
    let read = statement_read part [] body (printed_line ts) are.0 are.1 are.3 (printed_writes ts written) in
    let rest = printed_from (part_moved part body) (number + 1) bodies are.4 in
    ap (λ (lines : List (List ℕ)). statements_from part (enumerate_from number lines))
    (line_split (printed_line ts) (printed_text bodies) (printed_bytes ts written))
    ∙ statement_goes_on part (part_moved part body) number (printed_line ts) (lines_of (printed_text bodies)) body
    (on_lines (number + 1) bodies) read rest

pub text_read : (bodies : List Body) → AreWritable parts.Text bodies → statements_of (printed_text bodies) ≡ Ok (on_lines 1 bodies)
text_read bodies are = printed_from parts.Text 1 bodies are
