use Rattle.std.proofs.Common.{◌∙◌, sym, subst}
use Rattle.kmp_words.specs.Words.{IsRunnable}
use Rattle.kmp_words.proofs.WordsLemmas.{named_is_of, options_proper, order_runnable}
use Rattle.kmp_words.proofs.words.read_words.Goals as goal

pub returns-in-None-clause-runnable : goal.returns-in-None-clause-runnable
returns-in-None-clause-runnable c =
    let proper = options_proper c.in_ok-command.command _ c.in_ok-options.options (sym c.in_ok-options.ensures.value) in
    let known = named_is_of c.args.program _ c.in_ok-command.command (sym c.named.ensures.value ∙ c.in_ok-command.ensures.ok_part) in
    subst (IsRunnable c.args.program) (sym c.order_of.ensures.value)
    (order_runnable c.args.program c.in_ok-command.command c.in_ok-options.options known proper)
