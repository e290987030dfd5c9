use Rattle.std.proofs.Common.{rules, ◌≡◌, ℕ, ◌*◌, ap, ◌∙◌, length, replicate}
use Rattle.std.proofs.lemmas.List.{length-replicate}
use Rattle.image_file.specs.Value.{start_memory}
use Rattle.moesi_slave.specs.declared.SlavePhase.TheVariants.{Fresh}
use Rattle.cache_bus.specs.View.{slave_in}
use Rattle.cache_bus.proofs.StartLaws.{all-fresh, started-holds}
use Rattle.cache_bus.proofs.cache_bus.CacheBus.new.Goals as goal

pub invariant_of-result : goal.invariant_of-result
invariant_of-result c =
    let all : c.in_ok-slaves.slaves.items ≡ replicate (2 * c.args.cores) Fresh = c.in_ok-slaves.ensures.items_if_clones_equal (λ y e. e) in
    let main : c.main.inside.words.items ≡ start_memory c.args.image.now = search rules in
    let fresh : (cache : ℕ) → slave_in c.in_ok-slaves.slaves.items cache ≡ Fresh =
    (λ cache. ap (λ slaves. slave_in slaves cache) all ∙ all-fresh (2 * c.args.cores) cache) in
    started-holds c.args.image.now c.args.cores c.args.sets c.in_ok-caches.caches.items c.main.inside.words.items c.free.result
    c.in_ok-slaves.slaves.items c.in_ok-main.ensures.good c.requires.some_cores c.requires.cores c.requires.sets
    c.in_ok-caches.ensures.empty main c.free.ensures.off fresh (ap length all ∙ length-replicate (2 * c.args.cores) Fresh)
    c.in_ok-history.history.items c.in_ok-history.ensures.items
