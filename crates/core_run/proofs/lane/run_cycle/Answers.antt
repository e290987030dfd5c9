use Rattle.std.proofs.Common.{rules, arith, ◌+◌, subst, sym, ℕ}
use Rattle.core_run.specs.Lanes.{HasCome, IsCoupled}
use Rattle.core_run.specs.Running.{IsOver}
use Rattle.core_run.proofs.CycleLaws.{cycle-core}
use Rattle.core_run.proofs.EndLaws.{dead-stops}
use Rattle.core_run.proofs.RunningLaws.{ended-over, served-on, served-ended, calls-ended}
use Rattle.core_run.proofs.lane.run_cycle.Goals as goal

pub cycle-progress-requires : goal.cycle-progress-requires
cycle-progress-requires g c =
    let on = c.requires.on in
    record {
      serves = c.requires.serves;
      coupled = on.coupled;
      live = on.live;
      clocks = omega (arith, on.more, on.clocks);
      asks = record { fetch = λ closed. omega (arith, on.more, on.fetches); access = λ closed. omega (arith, on.more, on.accesses) };
    }

pub finish-requires : goal.finish-requires
finish-requires g c =
    let f = c.cycle-progress.ensures in
    let n = c.cycle-progress.new in
    let same = sym (cycle-core f.cycle.1) in
    record {
      serves = subst (λ (core : ℕ). g.S.CoreSide.serves n.side core) same f.serves;
      coupled = subst (λ (core : ℕ). IsCoupled (g.E.CoreEngine.view n.engine) (g.S.CoreSide.view n.side core) n.lane) same f.coupled;
      dead = dead-stops c.cycle-progress.result _ f.progressed;
    }

pub returns-in_err-end-clause-served : goal.returns-in_err-end-clause-served
returns-in_err-end-clause-served g c history served =
    let f = c.cycle-progress.ensures in
    served-on g.E.CoreEngine.view g.E.CoreEngine.timed g.S.CoreSide.view f.cycle.1 c.args.budget c.args.cycles history
    c.from_residual.result f.kept f.progressed c.requires.on.live served (search rules)

pub returns-clause-on_or_over : goal.returns-clause-on_or_over
returns-clause-on_or_over g c =
    let f = c.cycle-progress.ensures in
    let n = c.cycle-progress.new in
    let k = c.finish.ensures in
    let same = sym (cycle-core f.cycle.1) in
    let view = g.E.CoreEngine.view in
    let side = g.S.CoreSide.view in
    subst (λ (core : ℕ). IsOver c.args.budget (side c.finish.new.side core) (view c.finish.new.engine) c.finish.new.lane c.in_ok-end.end
    (c.args.cycles + 1)) (cycle-core f.cycle.1)
    (ended-over view g.E.CoreEngine.timed side k.ending.1.1 c.cycle-progress.result c.in_ok-end.end f.progressed (search rules)
    (omega (arith, c.requires.on.more))
    (subst (λ (core : ℕ). IsCoupled (view n.engine) (side n.side core) n.lane) same f.coupled) k.finished
    (k.runs (subst (λ (core : ℕ). HasCome (view n.engine) (side n.side core).taken) same (f.runs c.requires.on.runs))))

pub returns-clause-made : goal.returns-clause-made
returns-clause-made g c =
    calls-ended g.E.CoreEngine.view g.E.CoreEngine.timed g.S.CoreSide.view c.cycle-progress.ensures.cycle.1 c.finish.ensures.ending.1.1

pub returns-clause-served : goal.returns-clause-served
returns-clause-served g c history served =
    let f = c.cycle-progress.ensures in
    let n = c.cycle-progress.new in
    let coupled = subst (λ (core : ℕ). IsCoupled (g.E.CoreEngine.view n.engine) (g.S.CoreSide.view n.side core) n.lane)
    (sym (cycle-core f.cycle.1)) f.coupled in
    served-ended g.E.CoreEngine.view g.E.CoreEngine.timed g.S.CoreSide.view f.cycle.1 c.args.budget c.args.cycles
    c.finish.ensures.ending.1.1 history c.in_ok-end.end f.kept c.finish.ensures.kept coupled f.progressed c.requires.on.live served
    (search rules)
