use Rattle.std.proofs.Common.{◌≡◌, ◌+◌, length, take}
use Rattle.report_read.proofs.history.listed.Given as goal

abbrev pub invariant-loop-item : goal.invariant-loop-item
invariant-loop-item l = record {
  items : l.history.items ≡ take l.item-index l.items;
  room : l.history.spare + l.item-index ≡ length l.items;
}
