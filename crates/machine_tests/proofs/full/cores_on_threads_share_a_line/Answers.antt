use Rattle.std.proofs.Common.{refl, arith}
use Rattle.machine_tests.proofs.full.cores_on_threads_share_a_line.Goals as goal

pub run_threads-requires-clause-limits : goal.run_threads-requires-clause-limits
run_threads-requires-clause-limits g c κs = record {
  some_cores = omega arith;
  cores = omega arith;
  some_budget = omega arith;
  budget = omega arith;
  power_of_two = (4, refl);
  sets = omega arith;
  some_ways = omega arith;
  ways = omega arith;
}
