use Rattle.std.proofs.Common.{rules, ◌≡◌, ◌+◌, ◌*◌, ◌<◌, length}
use Rattle.moesi_master.specs.declared.Phase.TheVariants as phase
use Rattle.cache_bus.proofs.StepLaws.{flush-inside, flush-holds, flush-goes}
use Rattle.cache_bus.proofs.cache_bus.CacheBus.flush.Goals as goal

pub flush-requires-clause-inside : goal.flush-requires-clause-inside
flush-requires-clause-inside c v e =
    let at : c.self.inside.bus.phase ≡ phase.Flush = search rules in
    let lt : 2 * v + 1 < length c.self.inside.main.items = flush-inside _ c.self.invariant at v e in
    search rules

pub invariant_of-self : goal.invariant_of-self
invariant_of-self c =
    let at : c.self.inside.bus.phase ≡ phase.Flush = search rules in
    flush-holds _ c.self.invariant _ at c.flush.ensures.flushed

pub returns : goal.returns
returns c =
    let at : c.self.inside.bus.phase ≡ phase.Flush = search rules in
    rw (← c.self.view_is) (record { goes_on = flush-goes _ c.self.invariant c.flush.new.main.items c.self.inside.history.spare at })
