use Rattle.std.proofs.Common.{◌≡◌, ◌*◌, ◌≤◌, take}
use Rattle.std.specs.List.{sum_by}
use Rattle.timetable.specs.declared.CoreEnd.{CoreEnd}
use Rattle.timetable.specs.Waits.{fetch_waits, operand_waits, access_waits}
use Rattle.report_build.proofs.counts.all_waits.Given as goal

abbrev pub invariant-loop-ended : goal.invariant-loop-ended
invariant-loop-ended l = record {
  fetch : l.all.fetch ≡ sum_by (λ (ended : CoreEnd). fetch_waits ended.rows.rows) (take l.ended-index l.cores);
  operand : l.all.operand ≡ sum_by (λ (ended : CoreEnd). operand_waits ended.rows.rows) (take l.ended-index l.cores);
  access : l.all.access ≡ sum_by (λ (ended : CoreEnd). access_waits ended.rows.rows) (take l.ended-index l.cores);
  few_fetch : l.all.fetch ≤ l.ended-index * 2305843009213693951;
  few_operand : l.all.operand ≤ l.ended-index * 2305843009213693951;
  few_access : l.all.access ≤ l.ended-index * 2305843009213693951;
}
