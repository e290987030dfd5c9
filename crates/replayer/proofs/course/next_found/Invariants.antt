use Rattle.std.proofs.Common.{◌≡◌, length}
use Rattle.access_log.specs.Items.{entries}
use Rattle.access_log.specs.Replay.{own}
use Rattle.right_run.specs.Stages.{found_by}
use Rattle.replayer.proofs.course.next_found.Given as goal

abbrev pub invariant-loop-left : goal.invariant-loop-left
invariant-loop-left l = found_by (own (entries l.left) l.core) ≡ found_by (own (entries l.items) l.core)

abbrev pub decreases-loop-left : goal.decreases-loop-left
decreases-loop-left l = length l.left
