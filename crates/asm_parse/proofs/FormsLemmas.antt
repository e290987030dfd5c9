-- Statements that are written are read, form by form.
use Rattle.std.proofs.Common.{◌≡◌, ℕ, ◌%◌, ◌^◌, ◌<◌, ◌≤◌, Bool, true, false, List, [], ◌∷◌, map, Some, Ok, refl, arith}
use Rattle.mips_isa.specs.declared.Instr.TheVariants as instrs
use Rattle.mips_isa.specs.declared.ShiftOp.{ShiftOp}
use Rattle.mips_isa.specs.declared.ShiftOp.TheVariants.{Sll, Srl, Sra}
use Rattle.mips_isa.specs.declared.AluOp.{AluOp}
use Rattle.mips_isa.specs.declared.AluOp.TheVariants.{Add, Addu, Sub, Subu, And, Or, Xor, Nor, Slt, Sltu}
use Rattle.mips_isa.specs.declared.ImmOp.{ImmOp}
use Rattle.mips_isa.specs.declared.ZeroOp.{ZeroOp}
use Rattle.mips_isa.specs.declared.ZeroOp.TheVariants.{Bltz, Bgez, Blez, Bgtz}
use Rattle.asm_token.specs.declared.token.Token.{Token}
use Rattle.asm_token.specs.declared.token.Token.TheVariants as tokens
use Rattle.kmp_base.proofs.ReadingLaws.{with_front_and_rest}
use Rattle.asm_token.specs.Numbers.{word_of}
use Rattle.asm_parse.specs.declared.forms.Form.{Form}
use Rattle.asm_parse.specs.declared.forms.Form.TheVariants as forms
use Rattle.asm_parse.specs.declared.forms.Slot.{Slot}
use Rattle.asm_parse.specs.declared.forms.Slot.TheVariants.{Rd, Rs, Rt}
use Rattle.asm_parse.specs.declared.forms.Kind.{Kind}
use Rattle.asm_parse.specs.declared.forms.Kind.TheVariants as kinds
use Rattle.asm_parse.specs.declared.operands.Operand.TheVariants as said
use Rattle.asm_parse.specs.declared.statement.Body.{Body}
use Rattle.asm_parse.specs.declared.statement.Body.TheVariants.{Label, DataAt, Word, Space, Plain, Load}
use Rattle.asm_parse.specs.declared.statement.Part.{Part}
use Rattle.asm_parse.specs.declared.statement.Value.{Value}
use Rattle.asm_parse.specs.declared.statement.Value.TheVariants as values
use Rattle.asm_parse.specs.Forms.{rs, rt, amount, signed, unsigned, word, target, form_of, stands_in, part_behind}
use Rattle.asm_parse.specs.Lines.{labels_in, behind_labels, form_in, named_in}
use Rattle.asm_parse.specs.Operands.{operand_in, with_register, with_operand, no_operands, operands_in}
use Rattle.asm_parse.specs.Statements.{number_of, lower_half, branch, jump, body_of, more_words_in, words_in, statement_in}
use Rattle.asm_parse.specs.Printing as printing
use Rattle.asm_parse.specs.Printing.{shift_name, shift_by_name, alu_name, imm_name, branch_name, zero_name, jump_name, register, number}
use Rattle.asm_parse.specs.Printing.{signed_of, signed_number, immediate, value_token, one, separated, with_operands, branch_tokens}
use Rattle.asm_parse.specs.Printing.{instr_tokens, body_tokens, branch_imm, IsWord, HasNumbers, body_stands, label_tokens}
use Rattle.asm_parse.proofs.OperandsLemmas.{register_read, link_read, number_read, place_read, label_read, is_amount, is_unsigned, is_word}
use Rattle.asm_parse.proofs.OperandsLemmas.{is_address, is_space, is_signed, signed_back, address_read, one_read, two_read, three_read}

-- The forms of names.

pub shift_form : (op : ShiftOp) → form_of (shift_name op) ≡ Some (forms.Shift op)
unfolding form_of
shift_form Sll = refl
shift_form Srl = refl
shift_form Sra = refl

pub shift_by_form : (op : ShiftOp) → form_of (shift_by_name op) ≡ Some (forms.ShiftBy op)
unfolding form_of
shift_by_form Sll = refl
shift_by_form Srl = refl
shift_by_form Sra = refl

pub alu_form : (op : AluOp) → form_of (alu_name op) ≡ Some (forms.Alu op)
unfolding form_of
alu_form Add = refl
alu_form Addu = refl
alu_form Sub = refl
alu_form Subu = refl
alu_form And = refl
alu_form Or = refl
alu_form Xor = refl
alu_form Nor = refl
alu_form Slt = refl
alu_form Sltu = refl

pub branch_form : (differ : Bool) → form_of (branch_name differ) ≡ Some (forms.BranchTwo differ)
unfolding form_of
branch_form true = refl
branch_form false = refl

pub zero_form : (op : ZeroOp) → form_of (zero_name op) ≡ Some (forms.BranchZero op)
unfolding form_of
zero_form Bltz = refl
zero_form Bgez = refl
zero_form Blez = refl
zero_form Bgtz = refl

pub jump_form : (link : Bool) → form_of (jump_name link) ≡ Some (forms.Jump link)
unfolding form_of
jump_form true = refl
jump_form false = refl

-- What the tokens of a line are read as: its labels, and what stands behind them.
abbrev pub Reads : Part → List Token → List Body → Part → Type 0
Reads part ts bodies behind = with_front_and_rest (map Label (labels_in ts)) (named_in part (behind_labels ts)) ≡ Ok (bodies, behind)

-- a name is read by its form, where its operands are
pub form_reads : (part : Part) (form : Form) (name : List ℕ) (ts : List Token) (bodies : List Body)
    → labels_in (tokens.Name name ∷ ts) ≡ [] → behind_labels (tokens.Name name ∷ ts) ≡ tokens.Name name ∷ ts
    → form_of name ≡ Some form → stands_in form part ≡ true → statement_in form ts ≡ Ok bodies
    → Reads part (tokens.Name name ∷ ts) bodies (part_behind form part)
unfolding named_in form_in
form_reads part form name ts bodies none all is stands read = rw (none, all, is, stands, read) refl

-- Instructions over three registers.
pub registers_read : (a b c : Slot) (x y z : ℕ) → x < 32 → y < 32 → z < 32
    → operands_in (kinds.Register a ∷ kinds.Register b ∷ kinds.Register c ∷ [])
    (separated (one (register x) ∷ one (register y) ∷ one (register z) ∷ []))
    ≡ Ok (with_register c z (with_register b y (with_register a x no_operands)))
registers_read a b c x y z first second third =
    three_read (kinds.Register a) (kinds.Register b) (kinds.Register c)
    (register x ∷ tokens.Comma ∷ register y ∷ tokens.Comma ∷ register z ∷ []) (register y ∷ tokens.Comma ∷ register z ∷ [])
    (register z ∷ [])
    (said.Register a x) (said.Register b y) (said.Register c z)
    (register_read a x _ first) (register_read b y _ second) (register_read c z _ third)

-- two registers and a value
value_behind_two : (a b : Slot) (x y : ℕ) (kind : Kind) (t : Token) (value : Value) → x < 32 → y < 32
    → operand_in kind (one t) ≡ Ok (said.Value value, [])
    → operands_in (kinds.Register a ∷ kinds.Register b ∷ kind ∷ []) (separated (one (register x) ∷ one (register y) ∷ one t ∷ []))
    ≡ Ok (with_operand (said.Value value) (with_register b y (with_register a x no_operands)))
value_behind_two a b x y kind t value first second third =
    three_read (kinds.Register a) (kinds.Register b) kind
    (register x ∷ tokens.Comma ∷ register y ∷ tokens.Comma ∷ t ∷ []) (register y ∷ tokens.Comma ∷ t ∷ []) (t ∷ [])
    (said.Register a x) (said.Register b y) (said.Value value)
    (register_read a x _ first) (register_read b y _ second) third

-- a register and a value
pub value_behind : (a : Slot) (x : ℕ) (kind : Kind) (t : Token) (value : Value) → x < 32
    → operand_in kind (one t) ≡ Ok (said.Value value, [])
    → operands_in (kinds.Register a ∷ kind ∷ []) (separated (one (register x) ∷ one t ∷ []))
    ≡ Ok (with_operand (said.Value value) (with_register a x no_operands))
value_behind a x kind t value first second =
    two_read (kinds.Register a) kind (register x ∷ tokens.Comma ∷ t ∷ []) (t ∷ []) (said.Register a x) (said.Value value)
    (register_read a x _ first) second

-- a register and `offset(rs)`
address_behind : (x imm y : ℕ) → x < 32 → imm < 2 ^ 16 → y < 32
    → operands_in (rt ∷ kinds.Address ∷ []) (separated (one (register x) ∷ printing.address imm y ∷ []))
    ≡ Ok (with_operand (said.Address (word_of (signed_of imm)) y) (with_register Rt x no_operands))
address_behind x imm y first low second =
    two_read rt kinds.Address (register x ∷ tokens.Comma ∷ printing.address imm y) (printing.address imm y) (said.Register Rt x)
    (said.Address (word_of (signed_of imm)) y)
    (register_read Rt x _ first) (address_read imm y low second)

pub shift_read : (op : ShiftOp) (x y sa : ℕ) → x < 32 → y < 32 → sa < 32
    → statement_in (forms.Shift op) (separated (one (register x) ∷ one (register y) ∷ one (number sa) ∷ []))
    ≡ Ok (Plain (instrs.Shift op x y sa) ∷ [])
unfolding statement_in body_of
shift_read op x y sa first second low =
    let same : sa % 32 ≡ sa = omega arith in
    rw (
      value_behind_two Rd Rt x y (kinds.Number amount) (number sa) (values.Number sa) first second
          (number_read amount _ [] (is_amount sa low)),
      same,
    ) refl

pub shift_by_read : (op : ShiftOp) (x y z : ℕ) → x < 32 → y < 32 → z < 32
    → statement_in (forms.ShiftBy op) (separated (one (register x) ∷ one (register y) ∷ one (register z) ∷ []))
    ≡ Ok (Plain (instrs.ShiftBy op x y z) ∷ [])
unfolding statement_in body_of
shift_by_read op x y z first second third = rw (registers_read Rd Rt Rs x y z first second third) refl

pub alu_read : (op : AluOp) (x y z : ℕ) → x < 32 → y < 32 → z < 32
    → statement_in (forms.Alu op) (separated (one (register x) ∷ one (register y) ∷ one (register z) ∷ []))
    ≡ Ok (Plain (instrs.Alu op x y z) ∷ [])
unfolding statement_in body_of
alu_read op x y z first second third = rw (registers_read Rd Rs Rt x y z first second third) refl

pub cas_read : (x y z : ℕ) → x < 32 → y < 32 → z < 32
    → statement_in forms.Cas (separated (one (register x) ∷ one (register y) ∷ one (register z) ∷ [])) ≡ Ok (Plain (instrs.Cas x y z) ∷ [])
unfolding statement_in body_of
cas_read x y z first second third = rw (registers_read Rd Rs Rt x y z first second third) refl

pub signed_read : (op : ImmOp) (x y imm : ℕ) → x < 32 → y < 32 → imm < 2 ^ 16
    → statement_in (forms.Signed op) (separated (one (register x) ∷ one (register y) ∷ one (signed_number imm) ∷ []))
    ≡ Ok (Plain (instrs.AluImm op x y imm) ∷ [])
unfolding statement_in body_of
signed_read op x y imm first second low =
    rw (
      value_behind_two Rt Rs x y (kinds.Number signed) (signed_number imm) (values.Number (word_of (signed_of imm))) first second
          (number_read signed (signed_of imm) [] (is_signed imm low)),
      signed_back imm low,
    ) refl

pub unsigned_read : (op : ImmOp) (x y imm : ℕ) → x < 32 → y < 32 → imm < 2 ^ 16
    → statement_in (forms.Unsigned op) (separated (one (register x) ∷ one (register y) ∷ one (number imm) ∷ []))
    ≡ Ok (Plain (instrs.AluImm op x y imm) ∷ [])
unfolding statement_in body_of
unsigned_read op x y imm first second low =
    let same : lower_half imm ≡ imm = omega arith in
    rw (
      value_behind_two Rt Rs x y (kinds.Number unsigned) (number imm) (values.Number imm) first second
          (number_read unsigned _ [] (is_unsigned imm low)),
      same,
    ) refl

pub lui_read : (x imm : ℕ) → x < 32 → imm < 2 ^ 16
    → statement_in forms.Lui (separated (one (register x) ∷ one (number imm) ∷ [])) ≡ Ok (Plain (instrs.Lui x imm) ∷ [])
unfolding statement_in body_of
lui_read x imm first low =
    let same : lower_half imm ≡ imm = omega arith in
    rw (
      value_behind Rt x (kinds.Number unsigned) (number imm) (values.Number imm) first (number_read unsigned _ [] (is_unsigned imm low)),
      same,
    ) refl

-- A place is a label, or an immediate.
pub branch_read : (differ : Bool) (x y : ℕ) (t : Token) (value : Value) (imm : ℕ) → x < 32 → y < 32
    → operand_in (kinds.Place signed) (one t) ≡ Ok (said.Value value, [])
    → lower_half (number_of value) ≡ imm
    → statement_in (forms.BranchTwo differ) (separated (one (register x) ∷ one (register y) ∷ one t ∷ []))
    ≡ Ok (branch (instrs.BranchTwo differ x y imm) value ∷ [])
unfolding statement_in body_of
branch_read differ x y t value imm first second third same =
    rw (value_behind_two Rs Rt x y (kinds.Place signed) t value first second third, same) refl

pub zero_read : (op : ZeroOp) (x : ℕ) (t : Token) (value : Value) (imm : ℕ) → x < 32
    → operand_in (kinds.Place signed) (one t) ≡ Ok (said.Value value, [])
    → lower_half (number_of value) ≡ imm
    → statement_in (forms.BranchZero op) (separated (one (register x) ∷ one t ∷ [])) ≡ Ok (branch (instrs.BranchZero op x imm) value ∷ [])
unfolding statement_in body_of
zero_read op x t value imm first second same = rw (value_behind Rs x (kinds.Place signed) t value first second, same) refl

pub jump_read : (link : Bool) (t : Token) (value : Value) → operand_in (kinds.Place target) (one t) ≡ Ok (said.Value value, [])
    → statement_in (forms.Jump link) (one t) ≡ Ok (jump link value ∷ [])
unfolding statement_in body_of
jump_read link t value first = rw (one_read (kinds.Place target) (t ∷ []) (said.Value value) first) refl

pub jump_reg_read : (x : ℕ) → x < 32 → statement_in forms.JumpReg (one (register x)) ≡ Ok (Plain (instrs.JumpReg x) ∷ [])
unfolding statement_in body_of
jump_reg_read x first = rw (one_read rs (register x ∷ []) (said.Register Rs x) (register_read Rs x [] first)) refl

pub jump_link_read : (x y : ℕ) → x < 32 → y < 32
    → statement_in forms.JumpLink (separated (one (register x) ∷ one (register y) ∷ [])) ≡ Ok (Plain (instrs.JumpLink x y) ∷ [])
unfolding statement_in body_of
jump_link_read x y first second =
    rw (one_read kinds.Link (register x ∷ tokens.Comma ∷ register y ∷ []) (said.Link x y) (link_read x y first second)) refl

pub lw_read : (x y imm : ℕ) → x < 32 → y < 32 → imm < 2 ^ 16
    → statement_in forms.Lw (separated (one (register x) ∷ printing.address imm y ∷ [])) ≡ Ok (Plain (instrs.Lw x y imm) ∷ [])
unfolding statement_in body_of
lw_read x y imm first second low = rw (address_behind x imm y first low second, signed_back imm low) refl

pub sw_read : (x y imm : ℕ) → x < 32 → y < 32 → imm < 2 ^ 16
    → statement_in forms.Sw (separated (one (register x) ∷ printing.address imm y ∷ [])) ≡ Ok (Plain (instrs.Sw x y imm) ∷ [])
unfolding statement_in body_of
sw_read x y imm first second low = rw (address_behind x imm y first low second, signed_back imm low) refl

pub load_read : (x : ℕ) (t : Token) (value : Value) → x < 32 → operand_in (kinds.Place word) (one t) ≡ Ok (said.Value value, [])
    → statement_in forms.La (separated (one (register x) ∷ one t ∷ [])) ≡ Ok (Load x value ∷ [])
unfolding statement_in body_of
load_read x t value first second = rw (value_behind Rt x (kinds.Place word) t value first second) refl

pub data_read : (start : ℕ) → start < 2 ^ 32 → start % 4 ≡ 0 → statement_in forms.Data (one (number start)) ≡ Ok (DataAt start ∷ [])
unfolding statement_in
data_read start low at = rw (is_address start low at) refl

pub space_read : (bytes : ℕ) → bytes ≤ 2 ^ 24 → bytes % 4 ≡ 0 → statement_in forms.Space (one (number bytes)) ≡ Ok (Space bytes ∷ [])
unfolding statement_in
space_read bytes few at = rw (is_space bytes few at) refl

pub word_read : (value : Value) → IsWord value → statement_in forms.Word (one (value_token value)) ≡ Ok (Word value ∷ [])
unfolding statement_in words_in more_words_in
word_read (values.Number n) low = rw (is_word n low) refl
word_read (values.Of label) low = refl

pub value_read : (value : Value) → IsWord value → operand_in (kinds.Place word) (one (value_token value)) ≡ Ok (said.Value value, [])
value_read (values.Number n) low = place_read word _ [] (is_word n low)
value_read (values.Of label) low = label_read word label []
