use Rattle.std.proofs.Common.{◌≡◌, ◌+◌, drop}
use Rattle.kmp_words.specs.Words.{texts_of, no_options, options_from}
use Rattle.kmp_words.proofs.WordsLemmas.{count_of}
use Rattle.kmp_words.proofs.words.options_in.Given as goal

abbrev pub invariant-loop-text : goal.invariant-loop-text
invariant-loop-text l = record {
  read : options_from l.command l.word l.options (texts_of (drop l.text-index l.texts))
      ≡ options_from l.command 2 no_options (texts_of l.texts);
  number : l.word ≡ 2 + count_of l.options;
}
