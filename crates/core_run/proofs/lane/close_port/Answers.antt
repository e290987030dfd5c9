use Rattle.core_run.proofs.LaneLemmas.{open-holds, closes-open}
use Rattle.core_run.proofs.lane.close_port.Goals as goal

pub withdraw-requires-clause-opened : goal.withdraw-requires-clause-opened
withdraw-requires-clause-opened g c = open-holds _ _ _ c.if-not-is_open.false c.requires.holds.1

pub returns-clause-met : goal.returns-clause-met
returns-clause-met g c = λ want holds. closes-open c.withdraw.result _ _ want _ _ c.if-not-is_open.false holds c.withdraw.ensures.withdraws
