use Rattle.std.proofs.Common.{rules, ◌≡◌, ◌∙◌, ◌*◌, ◌<◌, false, ap, refl}
use Rattle.std.specs.Prelude.{not}
use Rattle.moesi_master.specs.declared.Phase.TheVariants as phase
use Rattle.moesi_master.specs.Moesi.{is_held}
use Rattle.moesi_slave.specs.Slave.{is_latched}
use Rattle.mem_port.specs.Ports.{MayAsk}
use Rattle.cache_bus.specs.View.{serves_now, port_of}
use Rattle.cache_bus.specs.Inside.{Inside, shown}
use Rattle.cache_bus.proofs.InsideLaws.{off-slaves}
use Rattle.cache_bus.proofs.AnswerLaws.{served-shown, serves-miss}
use Rattle.cache_bus.proofs.EndLaws.{begin-holds, begin-begins}
use Rattle.cache_bus.proofs.cache_bus.CacheBus.begin.Goals as goal

pub needs_supply-requires : goal.needs_supply-requires
needs_supply-requires c =
    let s : Inside = (record {
      image = c.self.inside.image.now;
      cores = c.self.inside.cores;
      sets = c.self.inside.sets;
      caches = c.self.inside.caches.items;
      main = c.self.inside.main.items;
      bus = c.self.inside.bus;
      slaves = c.self.inside.slaves.items;
      items = c.self.inside.history.items;
    }) in
    let at : c.self.inside.bus.phase ≡ phase.Off = search rules in
    let missed : serves_now (shown s c.self.inside.history.spare) c.args.cache c.args.request.now ≡ false =
    served-shown _ _ _ _ c.args.request.now false c.self.view_is refl c.requires.miss in
    let may : MayAsk c.self.inside.image.now (port_of c.args.cache) c.args.request.now = search rules in
    let below : c.args.cache < 2 * c.self.inside.cores = search rules in
    rw (c.letter_at-letter.ensures.letter, c.stores-im.ensures.value) (record {
      needed = serves-miss s c.self.invariant c.args.cache c.self.inside.history.spare
          c.args.request.now (ap is_latched (off-slaves s c.self.invariant at c.args.cache)) missed;
    })

pub invariant_of-self : goal.invariant_of-self
invariant_of-self c =
    let s : Inside = (record {
      image = c.self.inside.image.now;
      cores = c.self.inside.cores;
      sets = c.self.inside.sets;
      caches = c.self.inside.caches.items;
      main = c.self.inside.main.items;
      bus = c.self.inside.bus;
      slaves = c.self.inside.slaves.items;
      items = c.self.inside.history.items;
    }) in
    let at : c.self.inside.bus.phase ≡ phase.Off = search rules in
    let missed : serves_now (shown s c.self.inside.history.spare) c.args.cache c.args.request.now ≡ false =
    served-shown _ _ _ _ c.args.request.now false c.self.view_is refl c.requires.miss in
    let may : MayAsk c.self.inside.image.now (port_of c.args.cache) c.args.request.now = search rules in
    let below : c.args.cache < 2 * c.self.inside.cores = search rules in
    rw (c.granted.ensures.first, c.stores-im.ensures.value) (begin-holds s c.self.invariant at c.args.cache c.args.request.now below may
    (serves-miss s c.self.invariant c.args.cache c.self.inside.history.spare c.args.request.now
    (ap is_latched (off-slaves s c.self.invariant at c.args.cache)) missed)
    c.victim_at-victim.result c.victim_at-victim.ensures.victim c.victim_at-victim.ensures.held
    c.is_victim_dirty-is_dirty.result c.needs_supply.result c.is_victim_dirty-is_dirty.ensures.dirty
    (c.needs_supply.ensures.supply ∙ ap (λ x. not (is_held x)) c.letter_at-letter.ensures.letter))

pub returns : goal.returns
returns c =
    let s : Inside = (record {
      image = c.self.inside.image.now;
      cores = c.self.inside.cores;
      sets = c.self.inside.sets;
      caches = c.self.inside.caches.items;
      main = c.self.inside.main.items;
      bus = c.self.inside.bus;
      slaves = c.self.inside.slaves.items;
      items = c.self.inside.history.items;
    }) in
    let at : c.self.inside.bus.phase ≡ phase.Off = search rules in
    let missed : serves_now (shown s c.self.inside.history.spare) c.args.cache c.args.request.now ≡ false =
    served-shown _ _ _ _ c.args.request.now false c.self.view_is refl c.requires.miss in
    let may : MayAsk c.self.inside.image.now (port_of c.args.cache) c.args.request.now = search rules in
    let below : c.args.cache < 2 * c.self.inside.cores = search rules in
    rw (← c.self.view_is, c.granted.ensures.first, c.stores-im.ensures.value) (record {
      begins = begin-begins s c.self.invariant at c.args.cache c.args.request.now below may
          (serves-miss s c.self.invariant c.args.cache c.self.inside.history.spare c.args.request.now
          (ap is_latched (off-slaves s c.self.invariant at c.args.cache)) missed)
          c.victim_at-victim.result c.victim_at-victim.ensures.victim c.victim_at-victim.ensures.held
          c.is_victim_dirty-is_dirty.result c.needs_supply.result c.is_victim_dirty-is_dirty.ensures.dirty
          (c.needs_supply.ensures.supply ∙ ap (λ x. not (is_held x)) c.letter_at-letter.ensures.letter) c.self.inside.history.spare;
    })
