use Rattle.std.proofs.Common.{◌≡◌, ◌-◌, length, map}
use Rattle.std.specs.List.{range_with_len}
use Rattle.kmp_base.proofs.ReadingLaws.{with_front_and_rest}
use Rattle.row_reader.specs.Rows.{rows_of}
use Rattle.row_reader.specs.Reading.{each_at}
use Rattle.report_rows.specs.Ends.{end_value}
use Rattle.report_read.specs.Reading.{end_at, ends_at}
use Rattle.report_read.proofs.outcome.ends.Given as goal

abbrev pub invariant-loop-core : goal.invariant-loop-core
invariant-loop-core l = record {
  read : with_front_and_rest (map end_value l.ends.items)
      (each_at (end_at l.budget) (range_with_len l.core (l.cores - l.core)) (rows_of l.rest))
      ≡ ends_at l.budget l.cores (rows_of l.text);
  count : length l.ends.items ≡ l.core;
}
