use Rattle.access_log.specs.Items.{entries}
use Rattle.replayer.proofs.CoresLemmas.{SoFar}
use Rattle.replayer.proofs.cores.cores_difference.Given as goal

abbrev pub invariant-loop-core : goal.invariant-loop-core
invariant-loop-core l =
    SoFar l.first_line l.report.setup l.report.image (entries l.report.items) l.report.cores l.initial.machine l.machine l.line l.core
