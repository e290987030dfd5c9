use Rattle.std.proofs.Common.{arith}
use Rattle.std.proofs.lemmas.Grind.{common_steps}
use Rattle.std_laws.proofs.ListLaws.{AtEach-push}
use Rattle.core_run.proofs.PlainRunLaws.{IsFirstSlot, first-slot}
use Rattle.core_run.proofs.run.plain_slots.Goals as goal

pub loop-core-preserved : goal.loop-core-preserved
loop-core-preserved c = record {
  count = grind (arith, common_steps);
  room = grind (arith, common_steps);
  slots = λ core s got.
      (let plain = c.new.ensures in
      let slot = c.new-in-loop-core.ensures in
      let here = first-slot c.args.image.now c.args.cores c.loop-core.core _ c.new-in-loop-core.result plain.starts plain.clocks plain.timed
      slot.engine slot.core slot.closed slot.no_end slot.no_cycle in
      AtEach-push (IsFirstSlot c.args.image.now c.args.cores) c.loop-core.slots.items _ c.loop-core.invariant.slots
      (rw c.loop-core.invariant.count here) core s (rw c.push_reserved.ensures.items at got));
}

pub returns-clause-slots : goal.returns-clause-slots
returns-clause-slots c budget few core s got = (c.loop-core.invariant.slots core s got).slot budget few

pub returns-clause-timed : goal.returns-clause-timed
returns-clause-timed c core s got = (c.loop-core.invariant.slots core s got).timed
