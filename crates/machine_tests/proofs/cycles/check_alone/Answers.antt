use Rattle.std.proofs.Common.{arith}
use Rattle.machine_tests.proofs.AtWorkLaws.{works-first}
use Rattle.machine_tests.proofs.cycles.check_alone.Goals as goal

pub turns-requires : goal.turns-requires
turns-requires g c = record {
  works = works-first c.new-core.ensures.eager c.in_ok-memory.ensures.fresh (omega arith) c.new-core.ensures.core c.new-core.ensures.closed
      c.new-core.ensures.left;
}
