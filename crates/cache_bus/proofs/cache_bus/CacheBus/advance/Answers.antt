use Rattle.std.proofs.Common.{rules, ◌≡◌}
use Rattle.moesi_master.specs.declared.Phase.TheVariants as phase
use Rattle.cache_bus.proofs.StepLaws.{address-holds}
use Rattle.cache_bus.proofs.cache_bus.CacheBus.advance.Goals as goal

pub invariant_of-self : goal.invariant_of-self
invariant_of-self c =
    let at : c.self.inside.bus.phase ≡ phase.Address = search rules in
    address-holds _ c.self.invariant at
