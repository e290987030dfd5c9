use Rattle.std.proofs.Common.{◌∙◌, refl, arith}
use Rattle.timetable.specs.Recurrence.{no_row}
use Rattle.replayer.proofs.TimetableLemmas.{times_at, limit_is, row_differs, row_agrees, none_told, all_known}
use Rattle.replayer.proofs.timetables.judge_rows.Goals as goal

pub returns-in-Some-row_difference : goal.returns-in-Some-row_difference
returns-in-Some-row_difference c =
    let a = c.args in
    let l = c.loop-row in
    let limit = limit_is a.first_line a.bound a.limit a.stop a.course.now a.rows.now l.line l.clocks l.course l.row-index _ l.invariant _
    c.loop-row-test.true refl in
    record {
      told = row_differs a.first_line a.bound a.limit a.stop a.course.now a.rows.now l.line l.clocks l.course l.row-index _ l.invariant
          c.in-Some.instr c.next_instr.new.self c.in-Some-row_difference.difference c.limit_for-limit.result c.loop-row-test.true
          c.in-Some.ensures.some (c.limit_for-limit.ensures.limit ∙ limit) c.in-Some-row_difference.ensures.first;
      clocks = λ zero. tt;
    }

pub loop-row-preserved : goal.loop-row-preserved
loop-row-preserved c =
    let a = c.args in
    let l = c.loop-row in
    let limit = limit_is a.first_line a.bound a.limit a.stop a.course.now a.rows.now l.line l.clocks l.course l.row-index _ l.invariant _
    c.loop-row-test.true refl in
    row_agrees a.first_line a.bound a.limit a.stop a.course.now a.rows.now l.line l.clocks l.course l.row-index _ l.invariant
    c.in-Some.instr c.next_instr.new.self c.push.new.self c.limit_for-limit.result c.loop-row-test.true c.in-Some.ensures.some
    (c.limit_for-limit.ensures.limit ∙ limit) c.in_default-row_difference.ensures.first (c.push.ensures.of, c.push.ensures.within)
    (times_at a.rows.now l.row-index _ c.loop-row-test.true c.requires.times)

pub returns-in-None : goal.returns-in-None
returns-in-None c =
    let a = c.args in
    let l = c.loop-row in
    record {
      told = none_told a.first_line a.bound a.limit a.stop a.course.now a.rows.now l.line l.clocks l.course l.row-index no_row l.invariant
          (omega arith);
      clocks = all_known a.first_line a.bound a.limit a.stop a.course.now a.rows.now l.line l.clocks l.course l.row-index no_row
          l.invariant c.in-None.ensures.none;
    }

pub returns-in-Some-next_instr : goal.returns-in-Some-next_instr
returns-in-Some-next_instr c =
    let a = c.args in
    let l = c.loop-row in
    record {
      told = none_told a.first_line a.bound a.limit a.stop a.course.now a.rows.now l.line l.clocks l.course l.row-index no_row l.invariant
          (omega arith);
      clocks = λ zero. tt;
    }
