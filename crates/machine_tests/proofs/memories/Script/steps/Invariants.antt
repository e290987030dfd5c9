use Rattle.machine_tests.specs.Script.{Fits}
use Rattle.machine_tests.proofs.memories.Script.steps.Given as goal

abbrev pub invariant-loop : goal.invariant-loop
invariant-loop g l = Fits l.self.made l.self.left (g.M.MemoryCore.view l.self.memory)
