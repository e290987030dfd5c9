use Rattle.seq_machine.proofs.ReachingLaws.{one_answer, moved-there, moved-away, as_large-CatchesUp}
use Rattle.seq_machine.proofs.machine.Machine.catch_up.Goals as goal

pub returns-clause-there : goal.returns-clause-there
returns-clause-there c =
    moved-there c.args.self.now c.args.core c.args.nth c.catch_up_in.result c.catch_up_in.new.self c.catch_up_in.ensures

pub returns-clause-away : goal.returns-clause-away
returns-clause-away c =
    moved-away c.args.self.now c.args.core c.args.nth c.catch_up_in.result c.catch_up_in.new.self c.catch_up_in.ensures

pub returns-clause-cores : goal.returns-clause-cores
returns-clause-cores c =
    (as_large-CatchesUp c.args.self.now c.args.core c.args.nth c.catch_up_in.result c.catch_up_in.new.self c.catch_up_in.ensures).cores

pub returns-clause-memory : goal.returns-clause-memory
returns-clause-memory c =
    (as_large-CatchesUp c.args.self.now c.args.core c.args.nth c.catch_up_in.result c.catch_up_in.new.self c.catch_up_in.ensures).memory

pub returns-clause-only : goal.returns-clause-only
returns-clause-only c reach new h =
    one_answer c.args.self.now c.args.core c.args.nth c.catch_up_in.result reach c.catch_up_in.new.self new c.catch_up_in.ensures h
