use Rattle.std.proofs.Common.{◌≡◌, ◌≤◌, length}
use Rattle.core_run.proofs.DrawLemmas.{running_below}
use Rattle.core_run.proofs.seeded.running_at.Given as goal

abbrev pub invariant-loop-core : goal.invariant-loop-core
invariant-loop-core g l = record { before : l.before ≡ length (running_below l.slots l.core); within : l.before ≤ l.position }
