use Rattle.std.proofs.Common.{◌≡◌, ◌+◌, ◌≤◌, length}
use Rattle.std.specs.List.{AllByRecursion}
use Rattle.kmp_base.proofs.ReadingLaws.{with_front_and_rest}
use Rattle.access_log.specs.Indices.{IsOfCore}
use Rattle.row_reader.specs.Rows.{rows_of}
use Rattle.report_read.specs.Reading.{items_at}
use Rattle.report_read.proofs.history.items.Given as goal

abbrev pub invariant-rows : goal.invariant-rows
invariant-rows l = record {
  read : with_front_and_rest l.items.items (items_at l.machine l.cores l.bytes (rows_of l.rest))
      ≡ items_at l.machine l.cores l.bytes (rows_of l.text);
  cores : AllByRecursion IsOfCore l.items.items;
  few : length l.items.items + length l.rest ≤ length l.text;
}

abbrev pub decreases-rows : goal.decreases-rows
decreases-rows l = length l.rest
