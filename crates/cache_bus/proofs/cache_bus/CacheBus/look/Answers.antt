use Rattle.std.proofs.Common.{rules, ◌≡◌, ◌+◌, ◌-◌, ◌*◌, ◌<◌, length}
use Rattle.moesi_master.specs.declared.Phase.TheVariants as phase
use Rattle.coherence.specs.Bus.{unseen}
use Rattle.cache_bus.specs.View.{slave_in}
use Rattle.cache_bus.proofs.LookLaws.{look-holds, look-goes, look-room}
use Rattle.cache_bus.proofs.cache_bus.CacheBus.look.Goals as goal

pub looked-self-inside-requires-clause-ch : goal.looked-self-inside-requires-clause-ch
looked-self-inside-requires-clause-ch c =
    let at : c.self.inside.bus.phase ≡ phase.Look = search rules in
    let below : c.next-cache.result < length c.self.inside.slaves.items = search rules in
    let count : c.count_left-left.result - 1 + 1
    ≡ unseen (slave_in c.self.inside.slaves.items) c.self.inside.bus.master (2 * c.self.inside.cores) = search rules in
    look-room _ c.self.invariant at c.next-cache.result c.look-seen.result (c.count_left-left.result - 1) below c.next-cache.ensures.other
    c.next-cache.ensures.left (search rules) (search rules) count

pub invariant_of-self : goal.invariant_of-self
invariant_of-self c =
    let at : c.self.inside.bus.phase ≡ phase.Look = search rules in
    let below : c.next-cache.result < length c.self.inside.slaves.items = search rules in
    let count : c.count_left-left.result - 1 + 1
    ≡ unseen (slave_in c.self.inside.slaves.items) c.self.inside.bus.master (2 * c.self.inside.cores) = search rules in
    rw c.looked-self-inside.ensures.looked
    (look-holds _ c.self.invariant at c.next-cache.result c.look-seen.result (c.count_left-left.result - 1) below
    c.next-cache.ensures.other c.next-cache.ensures.left (search rules) (search rules) count)

pub returns : goal.returns
returns c =
    let at : c.self.inside.bus.phase ≡ phase.Look = search rules in
    let below : c.next-cache.result < length c.self.inside.slaves.items = search rules in
    let count : c.count_left-left.result - 1 + 1
    ≡ unseen (slave_in c.self.inside.slaves.items) c.self.inside.bus.master (2 * c.self.inside.cores) = search rules in
    rw (← c.self.view_is, c.looked-self-inside.ensures.looked) (record {
      goes_on = look-goes _ c.self.invariant at c.next-cache.result c.look-seen.result
          (c.count_left-left.result - 1) below c.next-cache.ensures.other c.next-cache.ensures.left (search rules)
          (search rules) count c.self.inside.history.spare;
    })
