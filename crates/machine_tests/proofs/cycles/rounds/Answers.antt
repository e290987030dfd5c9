use Rattle.std.proofs.Common.{sym, ◌∙◌}
use Rattle.machine_tests.proofs.AtWorkLaws.{works-beside}
use Rattle.machine_tests.proofs.cycles.rounds.Goals as goal

pub turn-requires-in-loop : goal.turn-requires-in-loop
turn-requires-in-loop g c = record {
  works = works-beside _ c.loop.invariant.second c.turn.ensures.works.lawful (λ e. c.loop.invariant.apart (sym e)) c.turn.ensures.others;
}

pub loop-preserved : goal.loop-preserved
loop-preserved g c = record {
  first = works-beside _ c.turn.ensures.works c.turn-in-loop.ensures.works.lawful
      (λ e. c.loop.invariant.apart (sym c.turn.ensures.core ∙ e)) c.turn-in-loop.ensures.others;
  second = c.turn-in-loop.ensures.works;
  apart = λ e. c.loop.invariant.apart (sym c.turn.ensures.core ∙ (e ∙ c.turn-in-loop.ensures.core));
}
