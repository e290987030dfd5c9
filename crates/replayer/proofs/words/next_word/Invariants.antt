use Rattle.std.proofs.Common.{◌≡◌}
use Rattle.report_text.specs.Report.{words_past}
use Rattle.replayer.proofs.words.next_word.Given as goal

abbrev pub invariant-loop-index : goal.invariant-loop-index
invariant-loop-index l = words_past l.index l.machine.memory ≡ words_past l.from l.machine.memory
