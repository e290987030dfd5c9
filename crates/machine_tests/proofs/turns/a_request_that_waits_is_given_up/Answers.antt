use Rattle.machine_tests.proofs.turns.a_request_that_waits_is_given_up.Goals as goal

pub give_up-requires-clause-fresh : goal.give_up-requires-clause-fresh
give_up-requires-clause-fresh g c = c.in_ok-memory.ensures.fresh _ _ _ _ c.in_ok-new.ensures.fresh
