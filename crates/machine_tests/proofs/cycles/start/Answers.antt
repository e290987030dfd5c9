use Rattle.machine_tests.proofs.cycles.start.Goals as goal

pub returns : goal.returns
returns c = record { fresh = c.in_ok-new.ensures.fresh _ _ _ _ c.in_ok-memory.ensures.fresh }
