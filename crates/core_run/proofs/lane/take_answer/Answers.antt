use Rattle.std.proofs.Common.{◌∙◌, ap}
use Rattle.std.specs.Prelude.{not}
use Rattle.core_run.proofs.LaneLemmas.{takes-answer}
use Rattle.core_run.proofs.lane.take_answer.Goals as goal

pub returns-clause-met : goal.returns-clause-met
returns-clause-met g c = takes-answer c.take.result _ _ _ _ (c.is_none.ensures ∙ ap not c.if-is_none.false) c.requires.holds
    c.take.ensures.takes
