use Rattle.machine_tests.proofs.turns.two_passes_share_a_memory.Goals as goal

pub play-requires-2-clause-fresh : goal.play-requires-2-clause-fresh
play-requires-2-clause-fresh g c = c.in_ok-memory.ensures.fresh _ _ _ _ c.in_ok-new-2.ensures.fresh
