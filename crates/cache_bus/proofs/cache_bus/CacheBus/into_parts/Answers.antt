use Rattle.std.proofs.Common.{rules, ◌≡◌, ◌<◌, ◌%◌, ◌^◌, length}
use Rattle.moesi_master.specs.declared.Phase.TheVariants as phase
use Rattle.cache_bus.proofs.StartLaws.{main-small, main-even, off-coherent}
use Rattle.cache_bus.proofs.cache_bus.CacheBus.into_parts.Goals as goal

pub gather-requires-clause-small : goal.gather-requires-clause-small
gather-requires-clause-small c =
    let small : length c.self.inside.main.items < 2 ^ 31 = main-small _ c.self.invariant in
    search rules

pub gather-requires-clause-even : goal.gather-requires-clause-even
gather-requires-clause-even c =
    let even : length c.self.inside.main.items % 2 ≡ 0 = main-even _ c.self.invariant in
    search rules

pub returns-clause-words : goal.returns-clause-words
returns-clause-words c =
    let at : c.self.inside.bus.phase ≡ phase.Off = search rules in
    rw (← c.self.view_is) (c.gather.ensures.gathered _ (off-coherent _ c.self.invariant at) c.self.invariant.split.agrees)
