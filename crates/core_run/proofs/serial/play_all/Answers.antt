use Rattle.std.proofs.Common.{arith, refl, ◌∙◌, ◌≡◌}
use Rattle.mem_port.proofs.SideLaws.{stays-view, kept_twice}
use Rattle.core_run.proofs.TurnLemmas.{leads-none, leads-twice}
use Rattle.core_run.proofs.serial.play_all.Goals as goal

pub loop-init : goal.loop-init
loop-init g c = record {
  lawful = c.requires.lawful;
  kept = (stays-view 0 _).kept;
  count = refl;
  slots = c.requires.slots;
  made = leads-none g.M.MemoryCore.makes _;
  served = λ histories served. (histories, served);
}

pub loop-preserved : goal.loop-preserved
loop-preserved g c =
    let l = c.loop in
    let f = c.play_round.ensures in
    record {
      lawful = f.lawful;
      kept = kept_twice l.invariant.kept f.kept;
      count = f.cores ∙ l.invariant.count;
      slots = f.slots l.counter l.invariant.slots;
      made = leads-twice g.M.MemoryCore.makes c.args.memory.now l.memory c.play_round.new.memory l.invariant.made f.made;
      served = λ histories served. (let h = l.invariant.served histories served in f.served l.counter h.0 l.invariant.slots h.1);
    }

pub returns-clause-slots : goal.returns-clause-slots
returns-clause-slots g c core s got =
    let done : c.loop.counter ≡ c.args.budget = omega arith in
    rw done at c.loop.invariant.slots core s got

pub returns-clause-served : goal.returns-clause-served
returns-clause-served g c histories served =
    let done : c.loop.counter ≡ c.args.budget = omega arith in
    rw done at c.loop.invariant.served histories served
