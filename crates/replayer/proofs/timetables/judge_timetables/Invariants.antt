use Rattle.std.proofs.Common.{◌≡◌, length}
use Rattle.access_log.specs.Items.{entries}
use Rattle.replayer.specs.Timetables.{EachKnown}
use Rattle.replayer.proofs.TablesLemmas.{TablesSoFar}
use Rattle.replayer.proofs.timetables.judge_timetables.Given as goal

abbrev pub invariant-loop-core : goal.invariant-loop-core
invariant-loop-core l = TablesSoFar l.report.setup l.report.image (entries l.report.items) l.first_line l.report.cores l.line l.core
    × EachKnown l.report l.clocks
    × (length l.clocks ≡ 8)
