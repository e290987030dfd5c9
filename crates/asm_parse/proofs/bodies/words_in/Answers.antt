use Rattle.std.proofs.Common.{rules, ◌≡◌, ◌∙◌, [], length, sym, arith}
use Rattle.std.proofs.lemmas.Bool.{eqb-true}
use Rattle.std.proofs.lemmas.List.{nil_from_length}
use Rattle.std.proofs.lemmas.List.Elements.{All-push}
use Rattle.std.proofs.lemmas.Result.{err_from_is_err_and}
use Rattle.asm_parse.specs.declared.statement.Body.TheVariants.{Word}
use Rattle.asm_parse.specs.Statements.{words_in, IsProperBody}
use Rattle.asm_parse.proofs.WordsLemmas.{first_word, first_ends, words_go_on, comma_ends, word_ends, words_done}
use Rattle.asm_parse.proofs.bodies.words_in.Goals as goal

pub returns-in_err-first-clause-value : goal.returns-in_err-first-clause-value
returns-in_err-first-clause-value c =
    let p = err_from_is_err_and c.from_residual.result c.from_residual.ensures.1 in
    rw (p.1, p.2) (first_ends c.in_err-first.field-0.0 c.args.tokens.now c.in_err-first.ensures.value)

pub words-init : goal.words-init
words-init c =
    record {
      read = rw (c.in_ok-push.ensures.items, c.new-words.ensures.items)
          (first_word c.args.tokens.now c.in_ok-first.others.now c.in_ok-first.first c.in_ok-first.ensures.value);
      proper = rw (c.in_ok-push.ensures.items, c.new-words.ensures.items)
          (All-push IsProperBody [] (Word c.in_ok-first.first) (λ k d lt. absurd (omega arith)) tt);
    }

pub returns-in_err-comma_in-clause-value : goal.returns-in_err-comma_in-clause-value
returns-in_err-comma_in-clause-value c =
    let p = err_from_is_err_and c.from_residual-in_err-comma_in.result c.from_residual-in_err-comma_in.ensures.1 in
    rw (p.1, p.2) (comma_ends c.in_err-comma_in.field-0.0 c.words.words.items c.words.rest.now (words_in c.args.tokens.now) (search rules)
    c.in_err-comma_in.ensures.value c.words.invariant.read)

pub returns-in_err-value-clause-value : goal.returns-in_err-value-clause-value
returns-in_err-value-clause-value c =
    let p = err_from_is_err_and c.from_residual-in_err-value.result c.from_residual-in_err-value.ensures.1 in
    rw (p.1, p.2) (word_ends c.in_err-value.field-0.0 c.words.words.items c.words.rest.now c.in_ok-comma_in.field-0.now
    (words_in c.args.tokens.now) c.in_ok-comma_in.ensures.value c.in_err-value.ensures.value c.words.invariant.read)

pub words-preserved : goal.words-preserved
words-preserved c =
    let step = words_go_on c.words.words.items c.words.rest.now c.in_ok-comma_in.field-0.now c.in_ok-value.behind.now c.in_ok-value.value
    c.in_ok-comma_in.ensures.value c.in_ok-value.ensures.value in
    record {
      read = rw c.in_ok-push-2.ensures.items (sym step ∙ c.words.invariant.read);
      proper = rw c.in_ok-push-2.ensures.items
          (All-push IsProperBody c.words.words.items (Word c.in_ok-value.value) c.words.invariant.proper tt);
    }

pub returns-clause-value : goal.returns-clause-value
returns-clause-value c =
    let empty : c.words.rest.now ≡ [] =
    nil_from_length c.words.rest.now (eqb-true (length c.words.rest.now) 0 (sym c.is_empty.ensures ∙ c.words-test.false)) in
    words_done c.words.words.items c.words.rest.now (words_in c.args.tokens.now) empty c.words.invariant.read
