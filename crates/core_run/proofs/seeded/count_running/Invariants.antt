use Rattle.std.proofs.Common.{◌≡◌, ◌≤◌, length}
use Rattle.core_run.proofs.DrawLemmas.{running_below}
use Rattle.core_run.proofs.seeded.count_running.Given as goal

abbrev pub invariant-loop-index : goal.invariant-loop-index
invariant-loop-index g l = record { count : l.count ≡ length (running_below l.slots l.index); few : l.count ≤ l.index }
