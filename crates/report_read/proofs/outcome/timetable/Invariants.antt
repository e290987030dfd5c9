use Rattle.std.proofs.Common.{◌≡◌, ◌≤◌, length}
use Rattle.kmp_base.proofs.ReadingLaws.{with_front_and_rest}
use Rattle.row_reader.specs.Rows.{rows_of}
use Rattle.row_reader.specs.Reading.{many_at}
use Rattle.report_row_reader.specs.Reading.{numbered, after_row, is_timed, timed_row_of}
use Rattle.report_read.specs.Reading.{timetable_at}
use Rattle.report_read.proofs.outcome.timetable.Given as goal

abbrev pub invariant-rows : goal.invariant-rows
invariant-rows l = record {
  read : with_front_and_rest (numbered 0 l.rows.items)
      (many_at (is_timed l.core) (timed_row_of l.most l.core) after_row (length l.rows.items) (rows_of l.rest))
      ≡ timetable_at l.most l.core (rows_of l.text);
  few : length l.rows.items ≤ l.most;
}

abbrev pub decreases-rows : goal.decreases-rows
decreases-rows l = length l.rest
