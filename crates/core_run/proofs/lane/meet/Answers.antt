use Rattle.std.proofs.Common.{◌∙◌, sym}
use Rattle.core_run.proofs.LaneLemmas.{access-proper, makes-cycle, meets}
use Rattle.core_run.proofs.lane.meet.Goals as goal

pub open_port-requires-clause-proper : goal.open_port-requires-clause-proper
open_port-requires-clause-proper g c =
    λ r want. access-proper _ _ c.args.lane.now.core r c.requires.coupled.image c.requires.coupled.sound
    (sym c.want_access-access.ensures.want ∙ want)

pub returns-clause-made : goal.returns-clause-made
returns-clause-made g c =
    makes-cycle g.S.CoreSide.serves g.S.CoreSide.makes g.S.CoreSide.leaves_others g.S.CoreSide.paid g.met.S.CoreSide.goes_on
    g.met.S.CoreSide.adds_up _ _ (g.E.CoreEngine.view c.args.engine.now) _ _ _ _ _ _ _ _ _ _
    c.want_access-access.ensures.want c.wanted_fetch-fetch.ensures.want c.open_port.ensures.made c.open_port-2.ensures.made
    c.take_answer-reply.ensures.made c.take_answer-fetched.ensures.made c.step_if_open-step.ensures.made

pub returns-clause-met : goal.returns-clause-met
returns-clause-met g c =
    meets _ _ _ _ _ _ _ _ _ _ _ _ _ c.requires.coupled c.want_access-access.ensures.want c.wanted_fetch-fetch.ensures.want
    c.is_unmet-lane.ensures.unmet c.is_unmet-lane-2.ensures.unmet
    c.open_port.ensures.met c.open_port-2.ensures.met c.take_answer-reply.ensures.met c.take_answer-fetched.ensures.met
    c.step_if_open-step.ensures.met
