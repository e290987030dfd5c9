use Rattle.std.proofs.Common.{◌≡◌, ◌+◌, ◌*◌, ◌≤◌, length, drop, map}
use Rattle.kmp_base.specs.Text.{hex8}
use Rattle.kmp_base.specs.Rows.{row_behind, row_text}
use Rattle.report_rows.specs.Rows.{registers_row}
use Rattle.report_print.proofs.spell.registers.Given as goal

abbrev pub invariant-loop-value : goal.invariant-loop-value
invariant-loop-value l = record {
  whole : row_behind l.row (map hex8 (drop l.value-index l.value-items)) ≡ row_text (registers_row l.core l.first l.regs);
  eight : length l.value-items ≤ 8;
  room : length l.row ≤ 43 + 9 * l.value-index;
}
