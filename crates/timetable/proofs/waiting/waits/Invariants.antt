use Rattle.std.proofs.Common.{◌≡◌, ◌+◌, ◌*◌, ◌≤◌, drop}
use Rattle.timetable.specs.Waits.{fetch_wait, operand_wait, access_wait, waited, fetch_waits, operand_waits, access_waits}
use Rattle.timetable.proofs.waiting.waits.Given as goal

abbrev pub invariant-loop-row : goal.invariant-loop-row
invariant-loop-row l = record {
  fetch : fetch_waits l.rows.rows ≡ l.waits.fetch + waited fetch_wait l.prior (drop l.row-index l.rows.rows);
  operand : operand_waits l.rows.rows ≡ l.waits.operand + waited operand_wait l.prior (drop l.row-index l.rows.rows);
  access : access_waits l.rows.rows ≡ l.waits.access + waited access_wait l.prior (drop l.row-index l.rows.rows);
  few_fetch : l.waits.fetch ≤ l.row-index * 4294967295;
  few_operand : l.waits.operand ≤ l.row-index * 4294967295;
  few_access : l.waits.access ≤ l.row-index * 4294967295;
}
