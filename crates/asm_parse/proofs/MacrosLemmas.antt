-- Lines that write macros are read as what these stand for.
use Rattle.std.proofs.Common.{◌≡◌, ℕ, ◌^◌, ◌<◌, true, false, List, [], ◌∷◌, ◌++◌, map, Ok, refl}
use Rattle.std.specs.Prelude.{IsTrue, codes}
use Rattle.std.specs.List.{AllByRecursion}
use Rattle.mips_isa.specs.declared.Instr.TheVariants as instrs
use Rattle.mips_isa.specs.declared.AluOp.TheVariants.{Addu}
use Rattle.asm_token.specs.declared.number.Number.{Number}
use Rattle.asm_token.specs.declared.token.Token.TheVariants as tokens
use Rattle.asm_token.specs.Numbers.{word_of}
use Rattle.asm_token.specs.Printing.{can_be_written, Writes}
use Rattle.asm_parse.specs.declared.forms.Form.TheVariants as forms
use Rattle.asm_parse.specs.declared.forms.Slot.TheVariants.{Rd, Rs, Rt}
use Rattle.asm_parse.specs.declared.forms.Kind.TheVariants as kinds
use Rattle.asm_parse.specs.declared.operands.Operand.TheVariants as said
use Rattle.asm_parse.specs.declared.statement.Body.TheVariants.{Label, Word, Plain, BranchTo, Load}
use Rattle.asm_parse.specs.declared.statement.Part.{Part}
use Rattle.asm_parse.specs.declared.statement.Value.{Value}
use Rattle.asm_parse.specs.declared.statement.Value.TheVariants as values
use Rattle.asm_parse.specs.Bounds.{is_within}
use Rattle.asm_parse.specs.Forms.{rd, rs, rt, signed, word, form_of}
use Rattle.asm_parse.specs.Lines.{labels_in, behind_labels, line_of}
use Rattle.asm_parse.specs.Operands.{value_of, operand_in, more_operands_in, operands_in}
use Rattle.asm_parse.specs.Statements.{body_of, more_words_in, words_in, statement_in}
use Rattle.asm_parse.specs.Printing.{register, signed_of, signed_number, value_token, one, separated, label_tokens, IsWord}
use Rattle.asm_parse.specs.Macros.{Macro, Nop, Move, Branch, BranchBy, Li, Lw, Sw, JumpLink, Words, Globl, bare_address, values_tokens}
use Rattle.asm_parse.specs.Macros.{macro_tokens, macro_bodies, IsMacro, macro_stands}
use Rattle.asm_parse.proofs.OperandsLemmas.{register_read, lone_link_read, lone_address_read, number_read, place_read, label_read, is_word}
use Rattle.asm_parse.proofs.OperandsLemmas.{is_signed, signed_back, one_read, two_read}
use Rattle.asm_parse.proofs.FormsLemmas.{Reads, form_reads, value_behind}
use Rattle.asm_parse.proofs.PrintingLemmas.{labels_first, line_read}

move_read : (x y : ℕ) → x < 32 → y < 32
    → statement_in forms.Move (separated (one (register x) ∷ one (register y) ∷ [])) ≡ Ok (Plain (instrs.Alu Addu x y 0) ∷ [])
unfolding statement_in body_of
move_read x y first second =
    rw (two_read rd rs (register x ∷ tokens.Comma ∷ register y ∷ []) (register y ∷ []) (said.Register Rd x) (said.Register Rs y)
    (register_read Rd x _ first) (register_read Rs y [] second)) refl

branch_label_read : (label : List ℕ)
    → statement_in forms.Branch (one (tokens.Name label)) ≡ Ok (BranchTo (instrs.BranchTwo false 0 0 0) label ∷ [])
unfolding statement_in body_of
branch_label_read label = rw (one_read (kinds.Place signed) (tokens.Name label ∷ []) (said.Value (values.Of label))
    (label_read signed label [])) refl

branch_by_read : (imm : ℕ) → imm < 2 ^ 16
    → statement_in forms.Branch (one (signed_number imm)) ≡ Ok (Plain (instrs.BranchTwo false 0 0 imm) ∷ [])
unfolding statement_in body_of
branch_by_read imm low =
    rw (
      one_read (kinds.Place signed) (signed_number imm ∷ []) (said.Value (values.Number (word_of (signed_of imm))))
          (place_read signed (signed_of imm) [] (is_signed imm low)),
      signed_back imm low,
    ) refl

li_read : (x : ℕ) (n : Number) → x < 32 → IsTrue (can_be_written (tokens.Number n))
    → statement_in forms.Li (separated (one (register x) ∷ one (tokens.Number n) ∷ []))
    ≡ Ok (Load x (values.Number (word_of n)) ∷ [])
unfolding statement_in body_of
li_read x n first written =
    let within : is_within word n ≡ true = rw written refl in
    rw (value_behind Rt x (kinds.Number word) (tokens.Number n) (values.Number (word_of n)) first (number_read word n [] within)) refl

lw_bare_read : (x y : ℕ) → x < 32 → y < 32
    → statement_in forms.Lw (separated (one (register x) ∷ bare_address y ∷ [])) ≡ Ok (Plain (instrs.Lw x y 0) ∷ [])
unfolding statement_in body_of
lw_bare_read x y first second =
    rw (two_read rt kinds.Address (register x ∷ tokens.Comma ∷ bare_address y) (bare_address y) (said.Register Rt x) (said.Address 0 y)
    (register_read Rt x _ first) (lone_address_read y second)) refl

sw_bare_read : (x y : ℕ) → x < 32 → y < 32
    → statement_in forms.Sw (separated (one (register x) ∷ bare_address y ∷ [])) ≡ Ok (Plain (instrs.Sw x y 0) ∷ [])
unfolding statement_in body_of
sw_bare_read x y first second =
    rw (two_read rt kinds.Address (register x ∷ tokens.Comma ∷ bare_address y) (bare_address y) (said.Register Rt x) (said.Address 0 y)
    (register_read Rt x _ first) (lone_address_read y second)) refl

jump_bare_read : (x : ℕ) → x < 32 → statement_in forms.JumpLink (one (register x)) ≡ Ok (Plain (instrs.JumpLink 31 x) ∷ [])
unfolding statement_in body_of
jump_bare_read x first = rw (one_read kinds.Link (register x ∷ []) (said.Link 31 x) (lone_link_read x first)) refl

globl_read : (label : List ℕ) → statement_in forms.Globl (one (tokens.Name label)) ≡ Ok []
unfolding statement_in body_of operands_in operand_in more_operands_in
globl_read label = refl

-- Words, one behind the other.

value_back : (value : Value) → IsWord value → value_of word (value_token value) ≡ Ok value
value_back (values.Number n) low = rw (is_word n low) refl
value_back (values.Of label) low = refl

after_comma : (value : Value) (others : List Value)
    → more_words_in (tokens.Comma ∷ separated (values_tokens (value ∷ others))) ≡ words_in (separated (values_tokens (value ∷ others)))
unfolding words_in more_words_in
after_comma value [] = refl
after_comma value (next ∷ others) = refl

words_read : (value : Value) (others : List Value) → IsWord value → AllByRecursion IsWord others
    → words_in (separated (values_tokens (value ∷ others))) ≡ Ok (map Word (value ∷ others))
unfolding words_in more_words_in
words_read value [] low all = rw (value_back value low) refl
words_read value (next ∷ others) low all =
    rw (value_back value low, after_comma next others, words_read next others all.0 all.1) refl

words_behind : (value : Value) (others : List Value)
    → labels_in (tokens.Name (codes ".word") ∷ separated (values_tokens (value ∷ others))) ≡ []
words_behind (values.Number n) [] = refl
words_behind (values.Number n) (next ∷ others) = refl
words_behind (values.Of label) [] = refl
words_behind (values.Of label) (next ∷ others) = refl

words_left : (value : Value) (others : List Value)
    → behind_labels (tokens.Name (codes ".word") ∷ separated (values_tokens (value ∷ others))) ≡ tokens.Name (codes ".word")
    ∷ separated (values_tokens (value ∷ others))
words_left (values.Number n) [] = refl
words_left (values.Number n) (next ∷ others) = refl
words_left (values.Of label) [] = refl
words_left (values.Of label) (next ∷ others) = refl

words_statement : (value : Value) (others : List Value) → IsWord value → AllByRecursion IsWord others
    → statement_in forms.Word (separated (values_tokens (value ∷ others))) ≡ Ok (map Word (value ∷ others))
unfolding statement_in
words_statement value others low all = words_read value others low all

macro_reads : (part : Part) (m : Macro) → IsMacro m → IsTrue (macro_stands m part) → Reads part (macro_tokens m) (macro_bodies m) part
unfolding form_of statement_in operands_in body_of
macro_reads part Nop is stands = form_reads part forms.Nop _ [] _ refl refl refl stands refl
macro_reads part (Move x y) is stands = form_reads part forms.Move _ _ _ refl refl refl stands (move_read x y is.0 is.1)
macro_reads part (Branch label) is stands = form_reads part forms.Branch _ _ _ refl refl refl stands (branch_label_read label)
macro_reads part (BranchBy imm) is stands = form_reads part forms.Branch _ _ _ refl refl refl stands (branch_by_read imm is)
macro_reads part (Li x n) is stands = form_reads part forms.Li _ _ _ refl refl refl stands (li_read x n is.0 is.1)
macro_reads part (Lw x y) is stands = form_reads part forms.Lw _ _ _ refl refl refl stands (lw_bare_read x y is.0 is.1)
macro_reads part (Sw x y) is stands = form_reads part forms.Sw _ _ _ refl refl refl stands (sw_bare_read x y is.0 is.1)
macro_reads part (JumpLink x) is stands = form_reads part forms.JumpLink _ _ _ refl refl refl stands (jump_bare_read x is)
macro_reads part (Words value others) is stands =
    form_reads part forms.Word (codes ".word") (separated (values_tokens (value ∷ others))) (map Word (value ∷ others))
    (words_behind value others) (words_left value others) refl stands
    (words_statement value others is.0 is.1)
macro_reads part (Globl label) is stands = form_reads part forms.Globl _ _ _ refl refl refl refl (globl_read label)

pub macro_read : (part : Part) (labels : List (List ℕ)) (m : Macro) (line : List ℕ) → IsMacro m → IsTrue (macro_stands m part)
    → Writes line (label_tokens labels ++ macro_tokens m)
    → line_of part line ≡ Ok (map Label labels ++ macro_bodies m, part)
macro_read part labels m line is stands writes =
    line_read part part line (label_tokens labels ++ macro_tokens m) (map Label labels ++ macro_bodies m) writes
    (labels_first part part labels (macro_tokens m) (macro_bodies m) (macro_reads part m is stands))
