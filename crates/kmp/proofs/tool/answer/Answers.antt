use Rattle.kmp_words.specs.Words.{texts_of, words_meaning}
use Rattle.kmp_words.specs.declared.program.Program.TheVariants as programs
use Rattle.kmp_call.proofs.BeneathLaws.{order_beneath, tells_beneath}
use Rattle.kmp_call.proofs.WordLaws.{obeyed_words, told_words}
use Rattle.kmp.specs.Outcome.{IsDue}
use Rattle.kmp.proofs.StatusLemmas.{is_of_input}
use Rattle.kmp.proofs.tool.answer.Goals as goal

pub returns-in-Ok-clause-obeys : goal.returns-in-Ok-clause-obeys
returns-in-Ok-clause-obeys g c =
    let order = c.in-Ok.order in
    let ends = order_beneath _ _ _ _ _ _ _ _ _ _ _ _ c.in-Ok.ensures.sink c.requires.fresh c.in-Ok.ensures.empty c.end_call.ensures.put
    IsDue order c.obey-ending.ensures.ends in
    obeyed_words _ _ (λ words. words_meaning programs.Kmp (texts_of words.items)) _ _ _ _ _ order _ _ IsDue (is_of_input order) ends
    c.args.words.now c.in-Ok.ensures.order

pub returns-in-Ok-clause-tells : goal.returns-in-Ok-clause-tells
returns-in-Ok-clause-tells g c =
    let order = c.in-Ok.order in
    let tells = tells_beneath _ _ _ _ _ _ _ _ _ _ _ _ c.in-Ok.ensures.sink c.requires.fresh c.in-Ok.ensures.empty c.end_call.ensures.put
    order c.obey-ending.result.split.items c.obey-ending.ensures.tells in
    rw c.end_call.ensures.split
    (told_words _ _ (λ words. words_meaning programs.Kmp (texts_of words.items)) _ _ _ _ _ order _ tells
    c.args.words.now c.in-Ok.ensures.order)
