use Rattle.std.proofs.Common.{rules, ◌≡◌}
use Rattle.moesi_master.specs.declared.Phase.TheVariants as phase
use Rattle.cache_bus.proofs.LineLaws.{two-words}
use Rattle.cache_bus.proofs.EndLaws.{end-holds, end-ends}
use Rattle.cache_bus.proofs.cache_bus.CacheBus.end.Goals as goal

pub invariant_of-self : goal.invariant_of-self
invariant_of-self c =
    let at : c.self.inside.bus.phase ≡ phase.Finish = search rules in
    rw (c.push.ensures.items, c.after_finish-letter.ensures.after) (end-holds _ c.self.invariant at c.finish.new.caches.items _
    c.refresh.new.slaves.items (two-words c.self.inside.bus.low c.self.inside.bus.high)
    (rw c.after_finish-letter.ensures.after at c.finish.ensures.here) c.finish.ensures.others c.finish.ensures.len
    c.refresh.ensures.fresh c.refresh.ensures.len)

pub returns : goal.returns
returns c =
    let at : c.self.inside.bus.phase ≡ phase.Finish = search rules in
    rw (← c.self.view_is, c.push.ensures.items, c.after_finish-letter.ensures.after) (record {
      ends = end-ends _ c.self.invariant at c.finish.new.caches.items _ c.refresh.new.slaves.items
          (two-words c.self.inside.bus.low c.self.inside.bus.high)
          (rw c.after_finish-letter.ensures.after at c.finish.ensures.here) c.finish.ensures.others c.finish.ensures.len
          c.refresh.ensures.fresh c.refresh.ensures.len c.self.inside.history.spare c.push.new.self.spare c.push.ensures.spare;
    })
