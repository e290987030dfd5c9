use Rattle.std.proofs.Common.{◌≡◌, ◌+◌, ◌-◌, ◌*◌, ◌≤◌, length}
use Rattle.kmp_base.proofs.ReadingLaws.{with_front_and_rest}
use Rattle.row_reader.specs.Rows.{rows_of}
use Rattle.report_row_reader.specs.Reading.{bytes_row_of}
use Rattle.report_read.specs.Reading.{full_rows_at}
use Rattle.report_read.proofs.SizeLemmas.{size_of_rows}
use Rattle.report_read.proofs.image.full_rows.Given as goal

abbrev pub ghost-first_row : goal.ghost-first_row
ghost-first_row a = bytes_row_of 32

abbrev pub invariant-loop : goal.invariant-loop
invariant-loop l = record {
  read : with_front_and_rest l.bytes.items (full_rows_at (l.rows - l.counter) (rows_of l.rest)) ≡ full_rows_at l.rows (rows_of l.text);
  len : length l.bytes.items ≡ 32 * l.counter;
  twice : 2 * length l.bytes.items + size_of_rows (rows_of l.rest) ≤ length l.text;
  shorter : length l.rest ≤ length l.text;
}
