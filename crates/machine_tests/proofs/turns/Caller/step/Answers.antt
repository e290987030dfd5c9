use Rattle.std.proofs.Common.{ap}
use Rattle.machine_tests.proofs.TurnLaws.{knows-moves, knows-idles}
use Rattle.machine_tests.proofs.turns.Caller.step.Goals as goal

pub returns-in-Moved : goal.returns-in-Moved
returns-in-Moved g c =
    let old = c.args.self.now in let a = old.answers in
    record {
      knows = knows-moves c.args.turn.now old.made old.left a old.pass c.step.new.pass c.requires.knows 0 c.in-Moved.ensures.made
          c.in-Moved.ensures.steps _ (ap (λ n. record a { moved = n }) c.one_more-self.ensures.more);
    }

pub returns-in-Idle : goal.returns-in-Idle
returns-in-Idle g c =
    let old = c.args.self.now in let a = old.answers in
    record {
      knows = knows-idles c.args.turn.now old.made old.left a old.pass c.step.new.pass c.requires.knows 0 c.in-Idle.ensures.made
          c.in-Idle.ensures.steps _ (ap (λ n. record a { idles = n }) c.one_more-self-in-Idle.ensures.more);
    }
