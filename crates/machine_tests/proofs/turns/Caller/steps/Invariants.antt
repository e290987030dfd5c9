use Rattle.machine_tests.specs.Turns.{Knows}
use Rattle.machine_tests.proofs.turns.Caller.steps.Given as goal

abbrev pub invariant-loop : goal.invariant-loop
invariant-loop g l = Knows l.turn l.self.made l.self.left l.self.answers l.self.pass
