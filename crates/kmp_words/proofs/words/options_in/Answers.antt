use Rattle.std.proofs.Common.{◌∙◌, sym, arith}
use Rattle.kmp_words.proofs.WordsLemmas.{counts, count_few, options_go_on}
use Rattle.kmp_words.proofs.words.options_in.Goals as goal

pub loop-text-preserved : goal.loop-text-preserved
loop-text-preserved c =
    let put = sym c.in_ok-options.ensures.value in
    record {
      read = sym (options_go_on c.args.command c.loop-text.word c.loop-text.options c.in_ok-options.options c.args.texts.now
          c.loop-text.text-index _ (omega arith) put) ∙ c.loop-text.invariant.read;
      number = omega (arith, counts c.args.command c.loop-text.word _ c.loop-text.options c.in_ok-options.options put);
    }

pub overflow_add-word : goal.overflow_add-word
overflow_add-word c = omega (arith, c.loop-text.invariant.number, count_few c.loop-text.options)
