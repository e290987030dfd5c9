use Rattle.turn.specs.Passes.{HasMade}
use Rattle.core_threads.proofs.CallLemmas.{run-of}
use Rattle.core_threads.proofs.RunLemmas.{ready-on, worked}
use Rattle.core_threads.proofs.work.work.Goals as goal

pub run_core-requires-clause-on : goal.run_core-requires-clause-on
run_core-requires-clause-on g c =
    let h = c.requires.ready in
    ready-on g.E.CoreEngine.view c.args.turn.now c.args.budget h.0 c.args.worker.now c.requires.budget c.requires.fresh h.1

pub returns : goal.returns
returns g c = record {
  worked = λ core ready.
      (let f = c.run_core.ensures in
      let n = c.run_core.new in
      worked g.E.CoreEngine.view c.args.turn.now c.args.budget core c.args.worker.now g.E.CoreEngine.timed
      (record { slot = n.slot; pass = n.side.pass.now }) n.side.turn.now f.others.0 c.requires.fresh ready f.serves.0 f.serves.1
      f.core f.others.3 f.over
      (run-of _ (λ turn. HasMade turn) (λ s. s.turn.now) (λ s. s.pass.now) (λ call s t made. (made.0, made.1))
      c.args.worker.now.slot.lane.core n.slot.cycles _ n.side f.made)
      f.served);
}
