use Rattle.replayer.proofs.TimetableLemmas.{RowsSoFar}
use Rattle.replayer.proofs.timetables.judge_rows.Given as goal

abbrev pub invariant-loop-row : goal.invariant-loop-row
invariant-loop-row l = RowsSoFar l.first_line l.bound l.limit l.stop l.initial.course l.rows l.line l.clocks l.course l.row-index
