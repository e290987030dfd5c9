use Rattle.std.proofs.Common.{rules, arith, ◌≡◌, refl, length}
use Rattle.std.proofs.lemmas.Grind.{common_steps}
use Rattle.std.proofs.lemmas.List.Elements.{All-push}
use Rattle.std_laws.proofs.ListLaws.{EachTo-push, slice_get_at}
use Rattle.timetable.specs.declared.CoreEnd.{CoreEnd}
use Rattle.timetable.specs.Outcome.{IsState}
use Rattle.core_run.specs.Outcomes.{IsEndOf}
use Rattle.core_run.proofs.serial.gather.Goals as goal

pub loop-slot-preserved : goal.loop-slot-preserved
loop-slot-preserved g c = record {
  rest = grind (arith, common_steps);
  count = grind (arith, common_steps);
  room = search rules;
  ends = (let all = EachTo-push (λ s ended. IsEndOf (g.E.CoreEngine.view s.engine) (g.E.TimedEngine.rows s.engine) s.end s.cycles ended)
      c.loop-slot.yielded c.loop-slot.ends.items c.in-Some.slot
      c.end_of.result c.loop-slot.invariant.count c.end_of.ensures.end c.loop-slot.invariant.ends in
      rw c.push_reserved.ensures.items all);
  states = rw c.push_reserved.ensures.items (All-push (λ (ended : CoreEnd). IsState ended.state) c.loop-slot.ends.items
      c.end_of.result c.loop-slot.invariant.states c.end_of.ensures.state);
}

pub returns-clause-ends : goal.returns-clause-ends
returns-clause-ends g c core ended got =
    let all : c.args.slots.items ≡ c.loop-slot.yielded = grind (arith, common_steps) in
    rw all (c.loop-slot.invariant.ends core ended got)

pub end_of-requires : goal.end_of-requires
end_of-requires g c = record {
  over = c.requires.over (length c.loop-slot.yielded) c.in-Some.slot
      (rw (c.loop-slot.invariant.rest, c.in-Some.ensures.steps.0) (slice_get_at c.loop-slot.yielded _ _ _ refl));
}
