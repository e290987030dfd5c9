use Rattle.std.proofs.Common.{◌≡◌, length, take, drop}
use Rattle.kmp_base.proofs.ReadingLaws.{with_front_and_rest}
use Rattle.row_reader.specs.Rows.{rows_of}
use Rattle.row_reader.specs.Reading.{row_at, each_at}
use Rattle.report_rows.specs.Names.{count_names}
use Rattle.report_row_reader.specs.Reading.{count_row_of}
use Rattle.report_read.specs.Reading.{counts_at}
use Rattle.report_read.proofs.outcome.counts.Given as goal

abbrev pub ghost-first_row : goal.ghost-first_row
ghost-first_row a = count_row_of a.read.0.now

abbrev pub invariant-loop-i : goal.invariant-loop-i
invariant-loop-i l = record {
  read : with_front_and_rest (take l.i l.values) (each_at (λ name. row_at (count_row_of name)) (drop l.i count_names) (rows_of l.rest))
      ≡ counts_at (rows_of l.text);
  len : length l.values ≡ 13;
}
