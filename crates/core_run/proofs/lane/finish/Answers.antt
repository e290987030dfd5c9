use Rattle.std.specs.Prelude.{option_map}
use Rattle.access_log.specs.Requests.{fetch_of}
use Rattle.std.proofs.Common.{refl, sym, subst}
use Rattle.core_run.specs.Lanes.{HasCome}
use Rattle.core_run.proofs.LaneLemmas.{makes-then, open-lives, fetch-held, closed-was, closed-taken, closed-asks, runs-drained}
use Rattle.core_run.proofs.lane.finish.Goals as goal

pub close_port-fetch-requires-clause-holds : goal.close_port-fetch-requires-clause-holds
close_port-fetch-requires-clause-holds g c =
    let e = g.E.CoreEngine.view c.args.engine.now in
    let f = c.requires.coupled in
    (option_map fetch_of e.fetch, fetch-held e c.args.lane.now _ _ _ f (c.close_port-access.ensures.met e.access f.access))

pub drain_open-requires-clause-live : goal.drain_open-requires-clause-live
drain_open-requires-clause-live g c = open-lives _ _ _ c.requires.coupled c.requires.dead

pub returns-clause-runs : goal.returns-clause-runs
returns-clause-runs g c =
    let e = g.E.CoreEngine.view c.args.engine.now in
    let f = c.requires.coupled in
    let a = c.close_port-access.ensures.met e.access f.access in
    let b = c.close_port-fetch.ensures.met (option_map fetch_of e.fetch) (fetch-held e c.args.lane.now _ _ _ f a) in
    λ h. subst (λ es. HasCome (g.E.CoreEngine.view c.drain_open.new.engine) es) (sym (closed-taken e c.args.lane.now _ _ _ _ _ f a b))
    (runs-drained g.E.CoreEngine.view g.E.CoreEngine.timed _ c.close_port-access.result _ _ _ _ f.sound c.drain_open.ensures.drained
    f.access h)

pub returns-clause-ending : goal.returns-clause-ending
returns-clause-ending g c =
    let e = g.E.CoreEngine.view c.args.engine.now in
    let f = c.requires.coupled in
    let a = c.close_port-access.ensures.met e.access f.access in
    let b = c.close_port-fetch.ensures.met (option_map fetch_of e.fetch) (fetch-held e c.args.lane.now _ _ _ f a) in
    let m = makes-then g.S.CoreSide.serves g.S.CoreSide.makes g.S.CoreSide.leaves_others g.S.CoreSide.paid g.met.S.CoreSide.goes_on
    g.met.S.CoreSide.adds_up _ _ _ 0 _ _ _ c.close_port-access.ensures.made c.close_port-fetch.ensures.made in (
      c.close_port-access.result,
      (
        c.close_port-fetch.result,
        record {
          calls = m.lead;
          access_was = a.was;
          fetch_was = closed-was e c.args.lane.now _ _ _ _ _ f a b;
          lane = refl;
          drained = c.drain_open.ensures.drained;
          taken = closed-taken e c.args.lane.now _ _ _ _ _ f a b;
          asks = closed-asks e c.args.lane.now _ _ _ _ _ f a b;
          paid = m.paid;
        },
      ),
    )
