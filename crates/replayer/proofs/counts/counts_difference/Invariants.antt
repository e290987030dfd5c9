use Rattle.replayer.proofs.JudgeLemmas.{count_at, AreSame}
use Rattle.replayer.proofs.counts.counts_difference.Given as goal

abbrev pub invariant-loop-i : goal.invariant-loop-i
invariant-loop-i l = AreSame (count_at l.line l.kept.values l.due.values) 13 l.i
