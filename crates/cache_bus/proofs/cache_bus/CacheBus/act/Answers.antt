use Rattle.std.proofs.Common.{rules, ◌≡◌, ◌+◌, ◌-◌, ◌*◌, ◌<◌, length}
use Rattle.std.proofs.lemmas.Bool.{not-true}
use Rattle.moesi_master.specs.declared.Phase.TheVariants as phase
use Rattle.coherence.specs.Bus.{unacted}
use Rattle.cache_bus.specs.View.{slave_in}
use Rattle.cache_bus.proofs.StepLaws.{act-holds, act-goes}
use Rattle.cache_bus.proofs.cache_bus.CacheBus.act.Goals as goal

pub invariant_of-self : goal.invariant_of-self
invariant_of-self c =
    let at : c.self.inside.bus.phase ≡ phase.Act = search rules in
    let below : c.next-cache.result < length c.self.inside.slaves.items = search rules in
    let count : c.count_left-left.result - 1 + 1
    ≡ unacted (slave_in c.self.inside.slaves.items) c.self.inside.bus.master (2 * c.self.inside.cores) = search rules in
    rw c.after-self-inside.ensures.after
    (act-holds _ c.self.invariant _ c.next-cache.result (c.count_left-left.result - 1) at below c.next-cache.ensures.other
    (not-true _ c.next-cache.ensures.left) count c.act.ensures.here c.act.ensures.others c.act.ensures.len)

pub returns : goal.returns
returns c =
    let at : c.self.inside.bus.phase ≡ phase.Act = search rules in
    let below : c.next-cache.result < length c.self.inside.slaves.items = search rules in
    let count : c.count_left-left.result - 1 + 1
    ≡ unacted (slave_in c.self.inside.slaves.items) c.self.inside.bus.master (2 * c.self.inside.cores) = search rules in
    rw (← c.self.view_is, c.after-self-inside.ensures.after) (record {
      goes_on = act-goes _ c.self.invariant c.act.new.caches.items c.next-cache.result
          (c.count_left-left.result - 1) at below c.next-cache.ensures.other (not-true _ c.next-cache.ensures.left) count c.act.ensures.here
          c.act.ensures.others c.act.ensures.len c.self.inside.history.spare;
    })
