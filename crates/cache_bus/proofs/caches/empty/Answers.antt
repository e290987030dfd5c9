use Rattle.std.proofs.Common.{rules, ◌≡◌, ◌++◌, ◌∷◌, []}
use Rattle.cache_bus.proofs.MainLaws.{empty-none, empty-pushed}
use Rattle.cache_bus.proofs.caches.empty.Goals as goal

pub loop-made-init : goal.loop-made-init
loop-made-init c = empty-none c.args.sets c.new-caches.result.items c.new-caches.ensures.items

pub loop-made-preserved : goal.loop-made-preserved
loop-made-preserved c =
    let e : c.push.new.self.items ≡ c.loop-made.caches.items ++ c.in_ok-cache.cache ∷ [] = search rules in
    empty-pushed c.loop-made.caches.items c.in_ok-cache.cache c.loop-made.made c.args.sets c.push.new.self.items
    c.loop-made.invariant c.in_ok-cache.ensures.sets c.in_ok-cache.ensures.letters c.in_ok-cache.ensures.filled e
