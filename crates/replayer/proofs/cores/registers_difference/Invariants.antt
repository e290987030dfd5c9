use Rattle.replayer.proofs.JudgeLemmas.{register_at, AreSame}
use Rattle.replayer.proofs.cores.registers_difference.Given as goal

abbrev pub invariant-loop-i : goal.invariant-loop-i
invariant-loop-i l = AreSame (register_at l.line l.kept.regs l.due.regs) 32 l.i
