use Rattle.std.proofs.Common.{◌∙◌, List, ℕ, sym, ap}
use Rattle.std.proofs.lemmas.Result.{err_from_is_err_and}
use Rattle.std.proofs.lemmas.List.{nil_from_length}
use Rattle.kmp_base.proofs.ReadingLaws.{with_front}
use Rattle.asm_token.specs.Tokens.{tokens_from, tokens_of}
use Rattle.asm_token.proofs.TokensLemmas.{blank_goes_on, token_goes_on, token_ends, tokens_done}
use Rattle.asm_token.proofs.token.tokens_of.Goals as goal

pub tokens-preserved-then-is_blank : goal.tokens-preserved-then-is_blank
tokens-preserved-then-is_blank c =
    let cells = c.in-Some.ensures.cases.0 in
    let blank = blank_goes_on c.in-Some.first.now c.in-Some.others.now (sym c.if-is_blank.ensures) in
    ap (with_front c.tokens.tokens.items) (sym blank ∙ ap (tokens_from 0) (sym cells)) ∙ c.tokens.invariant

pub returns-in_err-token : goal.returns-in_err-token
returns-in_err-token c =
    let cells = c.in-Some.ensures.cases.0 in
    let p = err_from_is_err_and c.from_residual.result c.from_residual.ensures.1 in
    let ends = token_ends c.in_err-token.field-0.0 c.tokens.tokens.items c.in-Some.first.now c.in-Some.others.now
    (tokens_of c.args.line.now) (sym c.if-is_blank.ensures) (sym c.in_err-token.ensures.value)
    (ap (λ (bytes : List ℕ). with_front c.tokens.tokens.items (tokens_from 0 bytes)) (sym cells) ∙ c.tokens.invariant) in
    rw (p.1, p.2) (record { tokens = ends })

pub tokens-preserved : goal.tokens-preserved
tokens-preserved c =
    let cells = c.in-Some.ensures.cases.0 in
    let step = token_goes_on c.tokens.tokens.items c.in-Some.first.now c.in-Some.others.now c.in_ok-token.token c.in_ok-token.size
    (sym c.if-is_blank.ensures) (sym c.in_ok-token.ensures.value) c.in_ok-token.ensures.some in
    rw (c.in_ok-push.ensures.items, c.split_at.ensures.back, cells)
    (sym step ∙ ap (λ (bytes : List ℕ). with_front c.tokens.tokens.items (tokens_from 0 bytes)) (sym cells) ∙ c.tokens.invariant)

pub returns : goal.returns
returns c =
    let empty = nil_from_length c.tokens.rest.now c.in_default.ensures.cases in
    record {
      tokens = tokens_done c.tokens.tokens.items (tokens_of c.args.line.now)
          (ap (λ (bytes : List ℕ). with_front c.tokens.tokens.items (tokens_from 0 bytes)) (sym empty) ∙ c.tokens.invariant);
    }
