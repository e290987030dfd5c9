use Rattle.std.proofs.Common.{◌≡◌, take}
use Rattle.report_summary.specs.Summary.{word_sum}
use Rattle.report_summary.proofs.summary.word_sum.Given as goal

abbrev pub invariant-loop-word : goal.invariant-loop-word
invariant-loop-word l = record {
  sum : l.sum ≡ word_sum (take l.word-index l.words);
}
