use Rattle.std.proofs.Common.{arith}
use Rattle.machine_tests.proofs.AtWorkLaws.{works-first}
use Rattle.machine_tests.proofs.cycles.check_both.Goals as goal

pub rounds-requires : goal.rounds-requires
rounds-requires g c = record {
  first = works-first c.new-first.ensures.eager c.in_ok-memory.ensures.fresh (omega arith) c.new-first.ensures.core
      c.new-first.ensures.closed c.new-first.ensures.left;
  second = works-first c.new-second.ensures.eager c.in_ok-memory.ensures.fresh (omega arith) c.new-second.ensures.core
      c.new-second.ensures.closed c.new-second.ensures.left;
  apart = λ e. absurd (omega (arith, e, c.new-first.ensures.core, c.new-second.ensures.core));
}
