use Rattle.std.specs.Prelude.{◌≢◌}
use Rattle.machine_tests.specs.AtWork.{IsAtWork}
use Rattle.machine_tests.proofs.cycles.rounds.Given as goal

abbrev pub invariant-loop : goal.invariant-loop
invariant-loop g l = record {
  first : IsAtWork l.first.left (g.E.CoreEngine.view l.first.engine) l.first.lane (g.M.MemoryCore.view l.memory);
  second : IsAtWork l.second.left (g.E.CoreEngine.view l.second.engine) l.second.lane (g.M.MemoryCore.view l.memory);
  apart : l.first.lane.core ≢ l.second.lane.core;
}
