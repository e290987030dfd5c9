use Rattle.pipe_core.proofs.EngineLemmas.{known-mem, drain-pipe, drain-meets}
use Rattle.pipe_core.proofs.ToldLemmas.{drain-told}
use Rattle.pipe_core.proofs.pipe.PipeCoreEngine.drain.Goals as goal

pub empty-requires-clause-known : goal.empty-requires-clause-known
empty-requires-clause-known c = known-mem _ c.self.invariant

pub invariant_of-self : goal.invariant_of-self
invariant_of-self c =
    drain-pipe c.self.inside.image.now c.self.inside.core c.self.inside.cores c.self.inside.budget c.self.inside.clocks c.self.inside.live
    c.self.inside.flight c.empty.new.flight c.self.inside.table c.empty.new.table
    _ c.self.view_is c.self.invariant c.args.reply c.args.reply c.requires.live
    c.requires.wants c.empty.ensures.flight c.empty.ensures.fit c.empty.ensures.executed c.empty.ensures.spare c.empty.ensures.table

pub returns-clause-drains : goal.returns-clause-drains
returns-clause-drains c =
    drain-meets c.self.inside.image.now c.self.inside.core c.self.inside.cores c.self.inside.budget c.self.inside.clocks
    c.self.inside.live c.self.inside.flight c.empty.new.flight c.self.inside.table c.empty.new.table
    _ c.self.view_is c.self.invariant c.args.reply c.args.reply c.requires.live c.requires.wants c.empty.ensures.flight

pub returns-clause-timed : goal.returns-clause-timed
returns-clause-timed c a b told paces =
    drain-told c.self.inside.image.now c.self.inside.core c.self.inside.cores c.self.inside.budget c.self.inside.clocks c.self.inside.live
    c.self.inside.flight c.empty.new.flight c.self.inside.table c.empty.new.table
    _ c.self.view_is c.self.invariant c.args.reply c.args.reply c.requires.live c.requires.wants a b told paces c.empty.ensures.flight
    c.empty.ensures.table
