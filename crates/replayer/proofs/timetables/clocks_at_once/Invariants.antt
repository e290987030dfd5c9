use Rattle.std.proofs.Common.{length}
use Rattle.replayer.proofs.TimetableLemmas.{ClocksSoFar}
use Rattle.replayer.proofs.timetables.clocks_at_once.Given as goal

abbrev pub invariant-loop-instr : goal.invariant-loop-instr
invariant-loop-instr l = ClocksSoFar l.clocks l.course l.initial.course

abbrev pub decreases-loop-instr : goal.decreases-loop-instr
decreases-loop-instr l = length l.course
