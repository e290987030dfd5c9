-- Lines that write labels and a statement are read as these.
use Rattle.std.proofs.Common.{◌≡◌, ℕ, ◌*◌, ◌/◌, ◌%◌, ◌^◌, ◌<◌, Bool, true, List, [], ◌∷◌, ◌++◌, map, Result, Ok, Err, refl, sym, ap, ◌∙◌}
use Rattle.std.proofs.Common.{arith}
use Rattle.std.specs.Prelude.{IsTrue, codes}
use Rattle.std.proofs.lemmas.List.{append-nil}
use Rattle.kmp_base.proofs.ReadingLaws.{with_front_and_rest}
use Rattle.mips_isa.specs.Words.{IsProper}
use Rattle.mips_isa.specs.declared.Instr.{Instr}
use Rattle.mips_isa.specs.declared.Instr.TheVariants as instrs
use Rattle.mips_isa.specs.declared.ImmOp.{ImmOp}
use Rattle.mips_isa.specs.declared.ImmOp.TheVariants.{Addi, Addiu, Slti, Sltiu, Andi, Ori, Xori}
use Rattle.asm_token.specs.declared.fault.AsmCause.{AsmCause}
use Rattle.asm_token.specs.declared.token.Token.{Token}
use Rattle.asm_token.specs.declared.token.Token.TheVariants as tokens
use Rattle.asm_token.specs.Numbers.{word_of}
use Rattle.asm_token.specs.Printing.{Writes}
use Rattle.asm_token.proofs.PrintingLaws.{tokens_read}
use Rattle.asm_parse.specs.declared.forms.Form.TheVariants as forms
use Rattle.asm_parse.specs.declared.statement.Body.{Body}
use Rattle.asm_parse.specs.declared.statement.Body.TheVariants.{Label, Text, Data, DataAt, Word, Space, Plain, BranchTo, JumpTo, Load}
use Rattle.asm_parse.specs.declared.statement.Part.{Part}
use Rattle.asm_parse.specs.declared.statement.Part.TheVariants as parts
use Rattle.asm_parse.specs.declared.statement.Value.{Value}
use Rattle.asm_parse.specs.declared.statement.Value.TheVariants as values
use Rattle.asm_parse.specs.Forms.{signed, target, form_of, is_part}
use Rattle.asm_parse.specs.Lines.{labels_in, behind_labels, named_in, line_of}
use Rattle.asm_parse.specs.Operands.{operands_in}
use Rattle.asm_parse.specs.Statements.{body_of, statement_in, part_moved, IsBranch, IsProperBody}
use Rattle.asm_parse.specs.Printing.{shift_name, shift_by_name, alu_name, branch_name, zero_name, jump_name, number, signed_of}
use Rattle.asm_parse.specs.Printing.{signed_number, value_token, one, branch_tokens, instr_tokens, body_tokens, branch_imm}
use Rattle.asm_parse.specs.Printing.{IsWord, HasNumbers, body_stands, label_tokens}
use Rattle.asm_parse.proofs.OperandsLemmas.{place_read, label_read, is_target, is_signed, signed_back}
use Rattle.asm_parse.proofs.FormsLemmas.{Reads, form_reads, shift_form, shift_by_form, alu_form, branch_form, zero_form}
use Rattle.asm_parse.proofs.FormsLemmas.{jump_form, shift_read, shift_by_read, alu_read, cas_read, signed_read, unsigned_read, lui_read}
use Rattle.asm_parse.proofs.FormsLemmas.{branch_read, zero_read, jump_read, jump_reg_read, jump_link_read, lw_read, sw_read, load_read}
use Rattle.asm_parse.proofs.FormsLemmas.{data_read, space_read, word_read, value_read}

-- Labels and nothing.

one_label : (label : List ℕ) (front bodies : List Body) (behind : Part) (read : Result (List Body × Part) AsmCause)
    → with_front_and_rest front read ≡ Ok (bodies, behind)
    → with_front_and_rest (Label label ∷ front) read ≡ Ok (Label label ∷ bodies, behind)
one_label label front bodies behind (Ok named) is = ap (with_front_and_rest (Label label ∷ [])) is
one_label label front bodies behind (Err cause) is = absurd cc

nothing_reads : (part : Part) → Reads part [] [] part
unfolding named_in
nothing_reads part = refl

-- Statements.

imm_reads : (part : Part) (op : ImmOp) (x y imm : ℕ) → x < 32 → y < 32 → imm < 2 ^ 16 → is_part parts.Text part ≡ true
    → Reads part (instr_tokens (instrs.AluImm op x y imm)) (Plain (instrs.AluImm op x y imm) ∷ []) part
unfolding form_of
imm_reads part Addi x y imm first second low stands =
    form_reads part (forms.Signed Addi) _ _ _ refl refl refl stands (signed_read Addi x y imm first second low)
imm_reads part Addiu x y imm first second low stands =
    form_reads part (forms.Signed Addiu) _ _ _ refl refl refl stands (signed_read Addiu x y imm first second low)
imm_reads part Slti x y imm first second low stands =
    form_reads part (forms.Signed Slti) _ _ _ refl refl refl stands (signed_read Slti x y imm first second low)
imm_reads part Sltiu x y imm first second low stands =
    form_reads part (forms.Signed Sltiu) _ _ _ refl refl refl stands (signed_read Sltiu x y imm first second low)
imm_reads part Andi x y imm first second low stands =
    form_reads part (forms.Unsigned Andi) _ _ _ refl refl refl stands (unsigned_read Andi x y imm first second low)
imm_reads part Ori x y imm first second low stands =
    form_reads part (forms.Unsigned Ori) _ _ _ refl refl refl stands (unsigned_read Ori x y imm first second low)
imm_reads part Xori x y imm first second low stands =
    form_reads part (forms.Unsigned Xori) _ _ _ refl refl refl stands (unsigned_read Xori x y imm first second low)

jump_back : (part : Part) (link : Bool) (index : ℕ) → index < 2 ^ 26 → is_part parts.Text part ≡ true
    → Reads part (instr_tokens (instrs.Jump link index)) (Plain (instrs.Jump link index) ∷ []) part
jump_back part link index low stands =
    let same : 4 * index / 4 % 2 ^ 26 ≡ index = omega arith in
    let read = jump_read link (number (4 * index)) (values.Number (4 * index)) (place_read target _ [] (is_target index low)) in
    form_reads part (forms.Jump link) (jump_name link) (one (number (4 * index))) (Plain (instrs.Jump link index) ∷ []) refl refl
    (jump_form link) stands
    (read ∙ ap (λ (i : ℕ). Ok (Plain (instrs.Jump link i) ∷ [])) same)

instr_reads : (part : Part) (instr : Instr) → IsProper instr → is_part parts.Text part ≡ true
    → Reads part (instr_tokens instr) (Plain instr ∷ []) part
unfolding form_of statement_in operands_in body_of
instr_reads part (instrs.Shift op x y sa) proper stands =
    form_reads part (forms.Shift op) (shift_name op) _ _ refl refl (shift_form op) stands (shift_read op x y sa proper.0 proper.1 proper.2)
instr_reads part (instrs.ShiftBy op x y z) proper stands =
    form_reads part (forms.ShiftBy op) (shift_by_name op) _ _ refl refl (shift_by_form op) stands
    (shift_by_read op x y z proper.0 proper.1 proper.2)
instr_reads part (instrs.Alu op x y z) proper stands =
    form_reads part (forms.Alu op) (alu_name op) _ _ refl refl (alu_form op) stands (alu_read op x y z proper.0 proper.1 proper.2)
instr_reads part (instrs.AluImm op x y imm) proper stands = imm_reads part op x y imm proper.0 proper.1 proper.2 stands
instr_reads part (instrs.Lui x imm) proper stands = form_reads part forms.Lui _ _ _ refl refl refl stands (lui_read x imm proper.0 proper.1)
instr_reads part (instrs.BranchTwo differ x y imm) proper stands =
    let place = place_read signed (signed_of imm) [] (is_signed imm proper.2) in
    form_reads part (forms.BranchTwo differ) (branch_name differ) _ _ refl refl (branch_form differ) stands
    (branch_read differ x y (signed_number imm) (values.Number (word_of (signed_of imm))) imm proper.0 proper.1 place
    (signed_back imm proper.2))
instr_reads part (instrs.BranchZero op x imm) proper stands =
    let place = place_read signed (signed_of imm) [] (is_signed imm proper.1) in
    form_reads part (forms.BranchZero op) (zero_name op) _ _ refl refl (zero_form op) stands
    (zero_read op x (signed_number imm) (values.Number (word_of (signed_of imm))) imm proper.0 place (signed_back imm proper.1))
instr_reads part (instrs.Jump link index) proper stands = jump_back part link index proper stands
instr_reads part (instrs.JumpReg x) proper stands = form_reads part forms.JumpReg _ _ _ refl refl refl stands (jump_reg_read x proper)
instr_reads part (instrs.JumpLink x y) proper stands =
    form_reads part forms.JumpLink _ _ _ refl refl refl stands (jump_link_read x y proper.0 proper.1)
instr_reads part (instrs.Lw x y imm) proper stands =
    form_reads part forms.Lw _ _ _ refl refl refl stands (lw_read x y imm proper.0 proper.1 proper.2)
instr_reads part (instrs.Sw x y imm) proper stands =
    form_reads part forms.Sw _ _ _ refl refl refl stands (sw_read x y imm proper.0 proper.1 proper.2)
instr_reads part (instrs.Cas x y z) proper stands =
    form_reads part forms.Cas _ _ _ refl refl refl stands (cas_read x y z proper.0 proper.1 proper.2)
instr_reads part instrs.Halt proper stands = form_reads part forms.Halt _ [] _ refl refl refl stands refl

-- a branch to a label
branch_reads : (part : Part) (instr : Instr) (label : List ℕ) → IsProper instr → IsBranch instr → branch_imm instr ≡ 0
    → is_part parts.Text part ≡ true
    → Reads part (branch_tokens instr (tokens.Name label)) (BranchTo instr label ∷ []) part
branch_reads part (instrs.BranchTwo differ x y imm) label proper is zero stands =
    form_reads part (forms.BranchTwo differ) (branch_name differ) _ _ refl refl (branch_form differ) stands
    (branch_read differ x y (tokens.Name label) (values.Of label) imm proper.0 proper.1 (label_read signed label []) (sym zero))
branch_reads part (instrs.BranchZero op x imm) label proper is zero stands =
    form_reads part (forms.BranchZero op) (zero_name op) _ _ refl refl (zero_form op) stands
    (zero_read op x (tokens.Name label) (values.Of label) imm proper.0 (label_read signed label []) (sym zero))
branch_reads part other label proper is zero stands = elim is [ ]

word_reads : (part : Part) (value : Value) → IsWord value → is_part parts.Data part ≡ true
    → Reads part (body_tokens (Word value)) (Word value ∷ []) part
unfolding form_of
word_reads part (values.Number n) low stands = form_reads part forms.Word _ _ _ refl refl refl stands (word_read (values.Number n) low)
word_reads part (values.Of label) low stands = form_reads part forms.Word _ _ _ refl refl refl stands (word_read (values.Of label) low)

body_reads : (part : Part) (body : Body) → IsProperBody body → HasNumbers body → IsTrue (body_stands body part)
    → Reads part (body_tokens body) (body ∷ []) (part_moved part body)
unfolding form_of statement_in operands_in body_of
body_reads part (Label label) proper fits stands = one_label label [] [] part (named_in part []) (nothing_reads part)
body_reads part Text proper fits stands = form_reads part forms.Text _ [] _ refl refl refl refl refl
body_reads part Data proper fits stands = form_reads part forms.Data _ [] _ refl refl refl refl refl
body_reads part (DataAt start) proper fits stands =
    form_reads part forms.Data (codes ".data") (one (number start)) (DataAt start ∷ []) refl refl refl refl (data_read start fits proper)
body_reads part (Word value) proper fits stands = word_reads part value fits stands
body_reads part (Space bytes) proper fits stands =
    form_reads part forms.Space (codes ".space") (one (number bytes)) (Space bytes ∷ []) refl refl refl stands
    (space_read bytes fits proper)
body_reads part (Plain instr) proper fits stands = instr_reads part instr proper stands
body_reads part (BranchTo instr label) proper fits stands = branch_reads part instr label proper.0 proper.1 fits stands
body_reads part (JumpTo link label) proper fits stands =
    form_reads part (forms.Jump link) (jump_name link) _ _ refl refl (jump_form link) stands
    (jump_read link (tokens.Name label) (values.Of label) (label_read target label []))
body_reads part (Load x value) proper fits stands =
    form_reads part forms.La _ _ _ refl refl refl stands (load_read x (value_token value) value proper (value_read value fits))

-- Labels in front.

pub labels_first : (part behind : Part) (labels : List (List ℕ)) (ts : List Token) (bodies : List Body) → Reads part ts bodies behind
    → Reads part (label_tokens labels ++ ts) (map Label labels ++ bodies) behind
labels_first part behind [] ts bodies read = read
labels_first part behind (label ∷ labels) ts bodies read =
    let others = labels_first part behind labels ts bodies read in
    one_label label (map Label (labels_in (label_tokens labels ++ ts))) (map Label labels ++ bodies) behind
    (named_in part (behind_labels (label_tokens labels ++ ts))) others

pub line_read : (part behind : Part) (line : List ℕ) (ts : List Token) (bodies : List Body) → Writes line ts → Reads part ts bodies behind
    → line_of part line ≡ Ok (bodies, behind)
unfolding line_of
line_read part behind line ts bodies writes read = rw (tokens_read line ts writes) read

pub statement_read : (part : Part) (labels : List (List ℕ)) (body : Body) (line : List ℕ) → IsProperBody body → HasNumbers body
    → IsTrue (body_stands body part)
    → Writes line (label_tokens labels ++ body_tokens body) → line_of part line ≡ Ok (map Label labels ++ body ∷ [], part_moved part body)
statement_read part labels body line proper fits stands writes =
    line_read part (part_moved part body) line (label_tokens labels ++ body_tokens body) (map Label labels ++ body ∷ []) writes
    (labels_first part (part_moved part body) labels (body_tokens body) (body ∷ []) (body_reads part body proper fits stands))

pub labels_read : (part : Part) (labels : List (List ℕ)) (line : List ℕ) → Writes line (label_tokens labels)
    → line_of part line ≡ Ok (map Label labels, part)
labels_read part labels line writes =
    line_read part part line (label_tokens labels) (map Label labels) writes
    (rw (append-nil (label_tokens labels), append-nil (map Label labels)) at (labels_first part part labels [] [] (nothing_reads part)))
