use Rattle.std.proofs.Common.{ap, rules}
use Rattle.machine_tests.proofs.TurnLaws.{knows-waits, knows-takes}
use Rattle.machine_tests.proofs.turns.Caller.take.Goals as goal

pub returns-in-Some : goal.returns-in-Some
returns-in-Some g c =
    let old = c.args.self.now in
    record {
      knows = knows-takes c.args.turn.now old.made old.left old.answers old.pass c.take-answer.new.pass c.requires.knows c.in-Some.field-0
          c.core.result c.in-Waiting.field-0 c.in-Some.ensures.made (c.in-Some.ensures.takes c.in-Waiting.field-0 (search rules));
    }

pub returns-in-None : goal.returns-in-None
returns-in-None g c =
    let old = c.args.self.now in let a = old.answers in
    record {
      knows = knows-waits c.args.turn.now old.made old.left a old.pass c.take-answer.new.pass c.requires.knows c.core.result
          c.in-Waiting.field-0 c.in-None.ensures.made (search rules) (c.in-None.ensures.takes c.in-Waiting.field-0 (search rules)) _
          (ap (λ n. record a { nones = n }) c.one_more-self.ensures.more);
    }
