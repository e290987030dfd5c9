use Rattle.std.proofs.Common.{ap, rules}
use Rattle.machine_tests.proofs.TurnLaws.{knows-withdraws, knows-answered}
use Rattle.machine_tests.proofs.turns.Caller.withdraw.Goals as goal

pub returns-in-Withdrawn : goal.returns-in-Withdrawn
returns-in-Withdrawn g c =
    let old = c.args.self.now in let a = old.answers in
    record {
      knows = knows-withdraws c.args.turn.now old.made old.left a old.pass c.withdraw.new.pass c.requires.knows c.core.result
          c.in-Waiting.field-0 c.in-Withdrawn.ensures.made (c.in-Withdrawn.ensures.withdraws c.in-Waiting.field-0 (search rules)) _
          (ap (λ n. record a { withdrawns = n }) c.one_more-self.ensures.more);
    }

pub returns-in-Answered : goal.returns-in-Answered
returns-in-Answered g c =
    let old = c.args.self.now in
    record {
      knows = knows-answered c.args.turn.now old.made old.left old.answers old.pass c.withdraw.new.pass c.requires.knows
          c.in-Answered.word c.core.result c.in-Waiting.field-0 c.in-Answered.ensures.made
          (c.in-Answered.ensures.withdraws c.in-Waiting.field-0 (search rules));
    }
