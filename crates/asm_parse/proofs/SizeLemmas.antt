-- A text has no more statements than bytes.
use Rattle.std.proofs.Common.{◌≡◌, ℕ, zero, suc, ◌+◌, ◌-◌, ◌≤◌, true, false, cond, List, [], ◌∷◌, ◌++◌, length, map, take, Option, None}
use Rattle.std.proofs.Common.{Some, Result, Ok, Err, arith}
use Rattle.std.specs.Prelude.{IfOk, sum_by}
use Rattle.std.specs.List.{prefix_len, enumerate_from}
use Rattle.std.specs.Option.{ok_or, option_to_list}
use Rattle.std.proofs.lemmas.Grind.{common_steps}
use Rattle.std.proofs.lemmas.List.Folds.{length-prefix_len}
use Rattle.std.proofs.lemmas.List.Sums.{prefix_len-le-length, sum_by-cons}
use Rattle.std.proofs.lemmas.Result.{IfOk-weaker}
use Rattle.asm_token.specs.declared.fault.AsmCause.{AsmCause}
use Rattle.asm_token.specs.declared.fault.AsmCause.TheVariants.{UnknownName, BadOperand}
use Rattle.asm_token.specs.declared.token.Token.{Token}
use Rattle.asm_token.specs.declared.token.Token.TheVariants as tokens
use Rattle.asm_token.specs.Bytes.{is_blank, is_before_comment}
use Rattle.kmp_base.specs.Bind.{◌>>=◌}
use Rattle.kmp_base.proofs.ReadingLaws.{then_holds, if_holds}
use Rattle.asm_token.specs.Faults.{at_line}
use Rattle.asm_token.specs.Tokens.{token_at, tokens_from, tokens_of}
use Rattle.asm_parse.specs.declared.forms.Form.{Form}
use Rattle.asm_parse.specs.declared.forms.Form.TheVariants as forms
use Rattle.asm_parse.specs.declared.statement.Body.{Body}
use Rattle.asm_parse.specs.declared.statement.Body.TheVariants.{Label}
use Rattle.asm_parse.specs.declared.statement.Part.{Part}
use Rattle.asm_parse.specs.Forms.{kinds_of, word, form_of, stands_in, part_behind}
use Rattle.asm_parse.specs.Operands.{value_of, operands_in}
use Rattle.asm_parse.specs.Statements.{body_of, data_in, space_in, more_words_in, words_in, statement_in}
use Rattle.asm_parse.specs.Lines.{labels_in, behind_labels, form_in, named_in, line_of, is_within_line, with_byte, lines_of, on_line}
use Rattle.asm_parse.specs.Lines.{statements_from, statements_of}

few_tokens_from : (passed : ℕ) (bytes : List ℕ) → IfOk (tokens_from passed bytes) (λ ts. length ts ≤ length bytes)
unfolding tokens_from
few_tokens_from zero [] = omega arith
few_tokens_from (suc passed) [] = omega arith
few_tokens_from (suc passed) (b ∷ rest) =
    IfOk-weaker (tokens_from passed rest) (λ ts. length ts ≤ length rest) (λ ts. length ts ≤ suc (length rest))
    (λ ts few. omega (arith, few)) (few_tokens_from passed rest)
few_tokens_from zero (b ∷ rest) =
    elim (is_blank b) as (λ t. IfOk
    (cond t (tokens_from 0 rest) (token_at b rest >>= λ first. tokens_from (first.1 - 1) rest >>= λ others. Ok (first.0 ∷ others)))
    (λ ts. length ts ≤ suc (length rest))) [
      | true ↦ IfOk-weaker (tokens_from 0 rest) (λ ts. length ts ≤ length rest) (λ ts. length ts ≤ suc (length rest))
          (λ ts few. omega (arith, few)) (few_tokens_from 0 rest)
      | false ↦ then_holds (token_at b rest) _ _
          (λ first. if_holds (tokens_from (first.1 - 1) rest) _ (λ ts. length ts ≤ length rest) _ (few_tokens_from (first.1 - 1) rest)
          (λ others few. omega (arith, few)))
    ]

few_tokens : (line : List ℕ) → IfOk (tokens_of line) (λ ts. length ts ≤ length line)
few_tokens line =
    let before = take (prefix_len is_before_comment line) line in
    IfOk-weaker (tokens_from 0 before) (λ ts. length ts ≤ length before) (λ ts. length ts ≤ length line)
    (λ ts few. omega (arith, few, length-prefix_len is_before_comment line, prefix_len-le-length is_before_comment line))
    (few_tokens_from 0 before)

few_more_words : (ts : List Token) → IfOk (more_words_in ts) (λ bodies. length bodies ≤ length ts)
unfolding more_words_in
few_more_words [] = omega arith
few_more_words (tokens.Comma ∷ t ∷ ts) =
    then_holds (value_of word t) _ _
    (λ value. if_holds (more_words_in ts) _ (λ bodies. length bodies ≤ length ts) _ (few_more_words ts) (λ others few. omega (arith, few)))
few_more_words other = tt

few_words : (ts : List Token) → IfOk (words_in ts) (λ bodies. length bodies ≤ suc (length ts))
unfolding words_in
few_words [] = tt
few_words (t ∷ ts) = then_holds (value_of word t) _ _
    (λ value. if_holds (more_words_in ts) _ (λ bodies. length bodies ≤ length ts) _ (few_more_words ts) (λ others few. omega (arith, few)))

none_or_one : (body : Option Body) → length (option_to_list body) ≤ 1
none_or_one None = omega arith
none_or_one (Some body) = omega arith

few_bodies : (form : Form) (ts : List Token) → IfOk (statement_in form ts) (λ bodies. length bodies ≤ suc (length ts))
unfolding statement_in
few_bodies forms.Data ts = then_holds (data_in ts) _ _ (λ body. omega arith)
few_bodies forms.Word ts = few_words ts
few_bodies forms.Space ts = then_holds (space_in ts) _ _ (λ body. omega arith)
few_bodies form ts = then_holds (operands_in (kinds_of form) ts) _ _ (λ o. omega (arith, none_or_one (body_of form o)))

few_in_form : (part : Part) (form : Form) (ts : List Token) → IfOk (form_in part form ts) (λ x. length x.0 ≤ suc (length ts))
unfolding form_in
few_in_form part form ts =
    let stands : IfOk (statement_in form ts >>= λ bodies. Ok (bodies, part_behind form part))
    (λ (x : List Body × Part). length x.0 ≤ suc (length ts)) =
    if_holds (statement_in form ts) _ (λ bodies. length bodies ≤ suc (length ts)) _ (few_bodies form ts) (λ bodies few. few) in
    elim (stands_in form part) as (λ t. IfOk
    (cond t (statement_in form ts >>= λ bodies. Ok (bodies, part_behind form part)) (Err BadOperand))
    (λ (x : List Body × Part). length x.0 ≤ suc (length ts))) [ true ↦ stands | false ↦ tt ]

few_named : (part : Part) (ts : List Token) → IfOk (named_in part ts) (λ x. length x.0 ≤ length ts)
unfolding named_in
few_named part [] = omega arith
few_named part (tokens.Name name ∷ ts) = then_holds (ok_or (form_of name) UnknownName) _ _ (λ form. few_in_form part form ts)
few_named part other = tt

few_labels : (ts : List Token) → length (labels_in ts) + length (behind_labels ts) ≤ length ts
few_labels (tokens.Name label ∷ tokens.Colon ∷ rest) = omega (arith, few_labels rest)
few_labels other = omega arith

few_in_line : (part : Part) (line : List ℕ) → IfOk (line_of part line) (λ x. length x.0 ≤ length line)
unfolding line_of
few_in_line part line =
    if_holds (tokens_of line) _ (λ ts. length ts ≤ length line) _ (few_tokens line) (λ ts few.
    if_holds (named_in part (behind_labels ts)) _ (λ x. length x.0 ≤ length (behind_labels ts)) _ (few_named part (behind_labels ts))
    (λ named some.
    let size : length (map Label (labels_in ts) ++ named.0) ≡ length (labels_in ts) + length named.0 = grind (arith, common_steps) in
    omega (arith, few, some, few_labels ts, size)))

at_line_holds : {A : Type 0} (number : ℕ) (read : Result A AsmCause) (P : A → Type 0) → IfOk read P → IfOk (at_line number read) P
at_line_holds number (Ok x) P holds = holds
at_line_holds number (Err cause) P holds = tt

few_statements : (part : Part) (number : ℕ) (lines : List (List ℕ))
    → IfOk (statements_from part (enumerate_from number lines)) (λ ss. length ss ≤ sum_by length lines)
unfolding statements_from
few_statements part number [] = omega arith
few_statements part number (line ∷ lines) =
    if_holds (at_line number (line_of part line)) _ (λ here. length here.0 ≤ length line) _
    (at_line_holds number (line_of part line) (λ here. length here.0 ≤ length line) (few_in_line part line)) (λ here few.
    if_holds (statements_from here.1 (enumerate_from (number + 1) lines)) _ (λ ss. length ss ≤ sum_by length lines) _
    (few_statements here.1 (number + 1) lines) (λ others some.
    let size : length (map (on_line number) here.0 ++ others) ≡ length here.0 + length others = grind (arith, common_steps) in
    omega (arith, few, some, size, sum_by-cons length line lines)))

with_byte_size : (b : ℕ) (lines : List (List ℕ)) → sum_by length (with_byte b lines) ≤ sum_by length lines + 1
with_byte_size b [] = omega arith
with_byte_size b (line ∷ lines) = omega (arith, sum_by-cons length (b ∷ line) lines, sum_by-cons length line lines)

lines_size : (text : List ℕ) → sum_by length (lines_of text) ≤ length text
unfolding lines_of
lines_size [] = omega arith
lines_size (b ∷ bytes) = elim (is_within_line b) as
    (λ t. sum_by length (cond t (with_byte b (lines_of bytes)) ([] ∷ lines_of bytes)) ≤ suc (length bytes)) [
      | true ↦ omega (arith, lines_size bytes, with_byte_size b (lines_of bytes))
      | false ↦ omega (arith, lines_size bytes, sum_by-cons length [] (lines_of bytes))
    ]

pub few_in_text : (text : List ℕ) → IfOk (statements_of text) (λ ss. length ss ≤ length text)
few_in_text text = IfOk-weaker (statements_of text) (λ ss. length ss ≤ sum_by length (lines_of text)) (λ ss. length ss ≤ length text)
    (λ ss few. omega (arith, few, lines_size text)) (few_statements _ 1 (lines_of text))
