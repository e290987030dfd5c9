use Rattle.std.proofs.Common.{◌∙◌, sym}
use Rattle.mem_system.proofs.CallLaws.{hit-makes, miss-makes}
use Rattle.mem_system.proofs.system.make_hit.Goals as goal

pub returns-then-serves : goal.returns-then-serves
returns-then-serves c =
    record {
      hit = hit-makes c.args.bus.now c.args.cache c.args.request.now c.requires.quiet (sym c.serves.ensures.serves
          ∙ c.if-serves.true);
    }

pub returns : goal.returns
returns c = record {
  hit = miss-makes c.args.bus.now c.begin.new.self c.transact.new.self c.args.cache c.args.request.now c.requires.quiet
      (sym c.serves.ensures.serves ∙ c.if-serves.false) c.begin.ensures.begins c.transact.ensures.ends;
}
