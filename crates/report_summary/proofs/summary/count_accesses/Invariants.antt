use Rattle.std.proofs.Common.{◌≡◌, true, take}
use Rattle.std.specs.List.{count_by}
use Rattle.report_text.specs.Counts.{at_entry}
use Rattle.report_summary.proofs.summary.count_accesses.Given as goal

abbrev pub invariant-loop-item : goal.invariant-loop-item
invariant-loop-item l = record {
  count : l.count ≡ count_by (at_entry (λ entry. true)) (take l.item-index l.items);
}
