use Rattle.std.proofs.Common.{rules, arith, ◌≡◌, ◌++◌, ◌∷◌, [], refl, ap, sym, ◌∙◌, length}
use Rattle.std.specs.Prelude.{map}
use Rattle.std.proofs.lemmas.Grind.{common_steps}
use Rattle.std.proofs.lemmas.List.{map-append}
use Rattle.std.proofs.lemmas.List.Elements.{All-push}
use Rattle.std_laws.proofs.ListLaws.{EachTo-push, slice_get_at}
use Rattle.timetable.specs.declared.CoreEnd.{CoreEnd}
use Rattle.timetable.specs.Outcome.{IsState}
use Rattle.core_run.specs.Outcomes.{IsEndOf}
use Rattle.turn.specs.Passes.{all_cores, own}
use Rattle.core_threads.proofs.JoinLemmas.{lone-cores}
use Rattle.core_threads.proofs.ends.gather.Goals as goal

pub loop-worker-preserved : goal.loop-worker-preserved
loop-worker-preserved g c =
    let l = c.loop-worker in
    let w = c.in-Some.worker in
    let alone = c.requires.alone (length l.yielded) w (rw (l.invariant.rest, c.in-Some.ensures.steps.0) (slice_get_at l.yielded _ _ _ refl))
    in
    record {
      rest = grind (arith, common_steps);
      turn = c.join.ensures.turn;
      cores = c.join.ensures.cores ∙ (ap (λ vs. vs ++ all_cores w.pass) l.invariant.cores
          ∙ (ap (λ vs. map (λ w. own w.pass) l.yielded ++ vs) (lone-cores (all_cores w.pass) w.pass.some_core alone.lone)
          ∙ sym (map-append (λ w. own w.pass) l.yielded (w ∷ []))));
      count = grind (arith, common_steps);
      room = search rules;
      ends = (let all = EachTo-push (λ w ended. IsEndOf (g.E.CoreEngine.view w.slot.engine) (g.E.TimedEngine.rows w.slot.engine) w.slot.end
          w.slot.cycles ended) l.yielded l.ends.items w c.end_of.result l.invariant.count c.end_of.ensures.end l.invariant.ends in
          rw c.push_reserved.ensures.items all);
      states = rw c.push_reserved.ensures.items (All-push (λ (ended : CoreEnd). IsState ended.state) l.ends.items c.end_of.result
          l.invariant.states c.end_of.ensures.state);
    }

pub returns-clause-ends : goal.returns-clause-ends
returns-clause-ends g c core ended got =
    let all : c.args.workers.items ≡ c.loop-worker.yielded = grind (arith, common_steps) in
    rw all (c.loop-worker.invariant.ends core ended got)
