use Rattle.std.proofs.Common.{◌≡◌, ◌+◌, length, drop}
use Rattle.report_text.specs.Report.{words_past}
use Rattle.row_check.specs.Judgments.{first_told}
use Rattle.replayer.specs.Lists.{words_judged}
use Rattle.replayer.proofs.words.words_difference.Given as goal

abbrev pub invariant-loop-word : goal.invariant-loop-word
invariant-loop-word l = record {
  line_is : l.line ≡ l.first_line + l.word-index;
  judged :
      first_told (words_judged l.line (drop l.word-index l.kept) (words_past l.index l.machine.memory))
      ≡ first_told (words_judged l.first_line l.kept (words_past (length l.image.code) l.machine.memory));
}
