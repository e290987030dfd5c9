use Rattle.std.proofs.Common.{rules, ◌≡◌}
use Rattle.moesi_master.specs.declared.Phase.TheVariants as phase
use Rattle.cache_bus.proofs.StepLaws.{owner-below, owner-held, supply-holds}
use Rattle.cache_bus.proofs.cache_bus.CacheBus.supply.Goals as goal

pub supply-requires-clause-below : goal.supply-requires-clause-below
supply-requires-clause-below c =
    let at : c.self.inside.bus.phase ≡ phase.Supply = search rules in
    owner-below _ c.self.invariant at

pub supply-requires-clause-held : goal.supply-requires-clause-held
supply-requires-clause-held c =
    let at : c.self.inside.bus.phase ≡ phase.Supply = search rules in
    owner-held _ c.self.invariant at

pub invariant_of-self : goal.invariant_of-self
invariant_of-self c =
    let at : c.self.inside.bus.phase ≡ phase.Supply = search rules in
    supply-holds _ c.self.invariant c.supply.result at c.supply.ensures.owner c.supply.ensures.main
