use Rattle.machine_tests.specs.AtWork.{IsAtWork}
use Rattle.machine_tests.proofs.cycles.turns.Given as goal

abbrev pub invariant-loop : goal.invariant-loop
invariant-loop g l = IsAtWork l.core.left (g.E.CoreEngine.view l.core.engine) l.core.lane (g.M.MemoryCore.view l.memory)
