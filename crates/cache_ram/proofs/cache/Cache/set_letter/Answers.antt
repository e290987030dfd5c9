use Rattle.std.proofs.Common.{rules}
use Rattle.cache_ram.proofs.LineLemmas.{sound-put}
use Rattle.cache_ram.proofs.cache.Cache.set_letter.Goals as goal

pub invariant_of-self : goal.invariant_of-self
invariant_of-self c =
    sound-put c.self.inside.slots.items c.set-set.result _ c.self.invariant (search rules) (search rules) c.requires.to_held
