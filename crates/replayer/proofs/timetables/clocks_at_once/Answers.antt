use Rattle.replayer.proofs.TimetableLemmas.{row_within, clocks_more}
use Rattle.replayer.proofs.timetables.clocks_at_once.Goals as goal

pub push-requires-clause-row : goal.push-requires-clause-row
push-requires-clause-row c =
    row_within c.loop-instr.clocks c.in-Some.instr c.row_at_once-row.result c.loop-instr.course c.args.course.now c.loop-instr.invariant
    (c.row_at_once-row.ensures.row, c.row_at_once-row.ensures.within)

pub loop-instr-preserved : goal.loop-instr-preserved
loop-instr-preserved c =
    clocks_more c.loop-instr.clocks c.push.new.self c.in-Some.instr c.row_at_once-row.result c.loop-instr.course c.next_instr.new.self
    c.args.course.now c.loop-instr.invariant c.in-Some.ensures.some (c.row_at_once-row.ensures.row, c.row_at_once-row.ensures.within)
    (c.push.ensures.of, c.push.ensures.within)
