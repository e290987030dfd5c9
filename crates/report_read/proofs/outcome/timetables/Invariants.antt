use Rattle.std.proofs.Common.{◌≡◌, ◌-◌, length, take, map}
use Rattle.std.specs.List.{range_with_len}
use Rattle.kmp_base.proofs.ReadingLaws.{with_front_and_rest}
use Rattle.row_reader.specs.Rows.{rows_of}
use Rattle.row_reader.specs.Reading.{each_at}
use Rattle.report_rows.specs.Ends.{end_value}
use Rattle.report_read.specs.Reading.{timetable_at, timetables_at, timed}
use Rattle.report_read.proofs.TimetableLemmas.{bare}
use Rattle.report_read.proofs.outcome.timetables.Given as goal

abbrev pub invariant-loop-core : goal.invariant-loop-core
invariant-loop-core l = record {
  read : with_front_and_rest (map timed (map end_value (take l.core l.cores.items)))
      (each_at (timetable_at l.most) (range_with_len l.core (length l.fn.ends.items - l.core)) (rows_of l.rest))
      ≡ timetables_at l.most (length l.fn.ends.items) (rows_of l.text);
  bare : map bare (map end_value l.cores.items) ≡ map bare (map end_value l.fn.ends.items);
}
