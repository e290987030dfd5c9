use Rattle.std.proofs.Common.{false}
use Rattle.std.specs.Prelude.{Some, None}
use Rattle.pipe_core.proofs.EngineLemmas.{known-mem, clock-sound, clock-runs, clock-stops, clock-pipe, stop-pipe, clock-own}
use Rattle.pipe_core.proofs.ToldLemmas.{clock-told, stop-tells}
use Rattle.pipe_core.proofs.pipe.PipeCoreEngine.clock.Goals as goal

pub run-requires-clause-known : goal.run-requires-clause-known
run-requires-clause-known c = known-mem _ c.self.invariant

pub invariant_of-self : goal.invariant_of-self
invariant_of-self c =
    clock-pipe c.self.inside.image.now c.self.inside.core c.self.inside.cores c.self.inside.budget c.self.inside.clocks c.self.inside.live
    c.self.inside.flight c.run.new.flight c.self.inside.table c.run.new.table
    _ c.self.view_is c.self.invariant c.args.fetched c.args.reply c.requires.live c.requires.clocks c.requires.fetch_fits
    c.requires.reply_fits
    c.in-None.ensures.stop c.in-None.ensures.flight c.run.ensures.fit c.run.ensures.executed c.run.ensures.spare c.in-None.ensures.table

pub returns-in-None-clause-sound : goal.returns-in-None-clause-sound
returns-in-None-clause-sound c =
    clock-sound c.self.inside.image.now c.self.inside.core c.self.inside.cores c.self.inside.budget c.self.inside.clocks
    c.self.inside.live c.self.inside.flight c.run.new.flight c.self.inside.table c.run.new.table
    _ c.self.view_is c.self.invariant c.args.fetched c.args.reply c.requires.live c.requires.clocks c.requires.fetch_fits
    c.requires.reply_fits
    c.in-None.ensures.flight

pub returns-in-None-clause-clocks : goal.returns-in-None-clause-clocks
returns-in-None-clause-clocks c =
    clock-runs c.self.inside.image.now c.self.inside.core c.self.inside.cores c.self.inside.budget c.self.inside.clocks c.self.inside.live
    c.self.inside.flight c.run.new.flight c.self.inside.table c.run.new.table
    _ c.self.view_is c.self.invariant c.args.fetched c.args.reply c.requires.live c.requires.clocks c.requires.fetch_fits
    c.requires.reply_fits
    c.in-None.ensures.stop c.in-None.ensures.flight

pub returns-in-Some-clause-clocks : goal.returns-in-Some-clause-clocks
returns-in-Some-clause-clocks c =
    clock-stops c.self.inside.image.now c.self.inside.core c.self.inside.cores c.self.inside.budget c.self.inside.clocks
    c.self.inside.live c.self.inside.flight c.run.new.flight c.self.inside.table c.run.new.table
    _ c.self.view_is c.self.invariant c.args.fetched c.args.reply c.requires.live c.requires.clocks c.requires.fetch_fits
    c.requires.reply_fits
    _ c.in-Some.ensures.stop c.in-Some.ensures.flight

pub invariant_of-self-in-Some : goal.invariant_of-self-in-Some
invariant_of-self-in-Some c =
    stop-pipe c.self.inside.image.now c.self.inside.core c.self.inside.cores c.self.inside.budget c.self.inside.clocks c.self.inside.live
    c.self.inside.flight c.run.new.flight c.self.inside.table c.run.new.table
    _ c.self.view_is c.self.invariant c.args.fetched c.args.reply c.requires.live c.requires.clocks c.requires.fetch_fits
    c.requires.reply_fits
    _ c.in-Some.ensures.stop c.in-Some.ensures.flight c.run.ensures.fit c.run.ensures.spare c.in-Some.ensures.table

pub returns-in-None-clause-timed : goal.returns-in-None-clause-timed
returns-in-None-clause-timed c a b told paces =
    clock-told c.self.inside.image.now c.self.inside.core c.self.inside.cores c.self.inside.budget c.self.inside.clocks c.self.inside.live
    c.self.inside.flight c.run.new.flight c.self.inside.table c.run.new.table
    _ c.self.view_is c.self.invariant c.args.fetched c.args.reply c.requires.live c.requires.fetch_fits c.requires.reply_fits a b told paces
    c.in-None.ensures.stop c.in-None.ensures.flight c.in-None.ensures.table

pub returns-in-Some-clause-timed : goal.returns-in-Some-clause-timed
returns-in-Some-clause-timed c a b told paces =
    stop-tells c.self.inside.image.now c.self.inside.core c.self.inside.cores c.self.inside.budget c.self.inside.clocks c.self.inside.live
    c.self.inside.flight c.run.new.flight c.self.inside.table c.run.new.table
    _ c.self.view_is c.self.invariant c.args.fetched c.args.reply c.requires.live c.requires.fetch_fits c.requires.reply_fits a b told paces
    _ c.in-Some.ensures.stop c.in-Some.ensures.flight c.in-Some.ensures.table

pub returns-in-None-clause-pipe : goal.returns-in-None-clause-pipe
returns-in-None-clause-pipe c =
    clock-own c.self.inside.image.now c.self.inside.core c.self.inside.cores c.self.inside.budget c.self.inside.clocks c.self.inside.live
    c.self.inside.live c.self.inside.flight c.run.new.flight c.self.inside.table c.run.new.table
    _ c.self.view_is c.args.fetched c.args.reply None c.in-None.ensures.stop c.in-None.ensures.flight c.in-None.ensures.table

pub returns-in-Some-clause-pipe : goal.returns-in-Some-clause-pipe
returns-in-Some-clause-pipe c =
    clock-own c.self.inside.image.now c.self.inside.core c.self.inside.cores c.self.inside.budget c.self.inside.clocks c.self.inside.live
    false c.self.inside.flight c.run.new.flight c.self.inside.table c.run.new.table
    _ c.self.view_is c.args.fetched c.args.reply (Some c.in-Some.stop) c.in-Some.ensures.stop c.in-Some.ensures.flight
    c.in-Some.ensures.table
