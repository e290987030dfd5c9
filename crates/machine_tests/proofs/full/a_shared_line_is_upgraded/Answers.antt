use Rattle.std.proofs.Common.{refl, arith}
use Rattle.machine_tests.proofs.full.a_shared_line_is_upgraded.Goals as goal

pub run_serial-requires-clause-limits : goal.run_serial-requires-clause-limits
run_serial-requires-clause-limits g c = record {
  some_cores = omega arith;
  cores = omega arith;
  some_budget = omega arith;
  budget = omega arith;
  power_of_two = (4, refl);
  sets = omega arith;
  some_ways = omega arith;
  ways = omega arith;
}
