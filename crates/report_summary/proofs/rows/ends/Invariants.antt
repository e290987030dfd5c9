use Rattle.std.proofs.Common.{◌≡◌, ◌+◌, ◌*◌, ◌≤◌, length, map, drop}
use Rattle.kmp_base.specs.Rows.{row_behind, row_text}
use Rattle.timetable.specs.Names.{end_name}
use Rattle.report_rows.specs.Ends.{EndValue, end_value}
use Rattle.report_summary.specs.Summary.{ends_row}
use Rattle.report_summary.proofs.rows.ends.Given as goal

abbrev pub invariant-loop-core : goal.invariant-loop-core
invariant-loop-core l = record {
  behind : row_behind l.row (map (λ (ended : EndValue). end_name ended.end) (map end_value (drop l.core-index l.cores)))
      ≡ row_text (ends_row (map end_value l.cores));
  short : length l.row ≤ 4 + 11 * l.core-index;
}
