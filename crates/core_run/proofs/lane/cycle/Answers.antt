use Rattle.core_run.proofs.LaneLemmas.{runs-clocked}
use Rattle.core_run.proofs.lane.cycle.Goals as goal

pub returns-clause-runs : goal.returns-clause-runs
returns-clause-runs g c = runs-clocked _ c.clock.result _ _ _ _ _ c.requires.coupled.sound c.clock.ensures.clocks c.meet-came.ensures.met
