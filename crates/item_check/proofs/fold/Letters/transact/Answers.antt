use Rattle.std.proofs.Common.{sym, ap, ◌∙◌, get_or, length}
use Rattle.item_check.proofs.HeldLaws.{transacted-room, transacted-held, transacted-follows, shown-allowed, shown-behind, written}
use Rattle.item_check.proofs.fold.Letters.transact.Goals as goal

pub finish-requires-clause-room : goal.finish-requires-clause-room
finish-requires-clause-room c =
    let allowed = shown-allowed _ _ (sym c.self.view_is) c.args.bus.now c.requires.allowed in
    let count = c.act.ensures.count ∙ ap length c.deref_mut.ensures.value in
    let acts = rw c.deref_mut.ensures.value at c.act.ensures.caches in
    let all = written c.self.inside.caches.len c.self.inside.caches.items c.act.new.caches (count ∙ sym c.self.inside.caches.ok.0) in
    transacted-room _ c.self.invariant c.args.bus.now allowed c.act.new.caches count acts c.index_mut.result.now
    (c.index_mut.ensures.value ∙ ap (λ these. get_or these c.args.bus.now.master c.index_mut.result.now) all)

pub invariant_of-self : goal.invariant_of-self
invariant_of-self c =
    let allowed = shown-allowed _ _ (sym c.self.view_is) c.args.bus.now c.requires.allowed in
    let count = c.act.ensures.count ∙ ap length c.deref_mut.ensures.value in
    let acts = rw c.deref_mut.ensures.value at c.act.ensures.caches in
    let all = written c.self.inside.caches.len c.self.inside.caches.items c.act.new.caches (count ∙ sym c.self.inside.caches.ok.0) in
    rw all (transacted-held _ c.self.invariant c.args.bus.now allowed c.act.new.caches count acts c.index_mut.result.now
    (c.index_mut.ensures.value ∙ ap (λ these. get_or these c.args.bus.now.master c.index_mut.result.now) all)
    c.finish.new.self c.finish.ensures.sets)

pub returns-clause-letters : goal.returns-clause-letters
returns-clause-letters c =
    let allowed = shown-allowed _ _ (sym c.self.view_is) c.args.bus.now c.requires.allowed in
    let count = c.act.ensures.count ∙ ap length c.deref_mut.ensures.value in
    let acts = rw c.deref_mut.ensures.value at c.act.ensures.caches in
    let all = written c.self.inside.caches.len c.self.inside.caches.items c.act.new.caches (count ∙ sym c.self.inside.caches.ok.0) in
    shown-behind _ _ (sym c.self.view_is) c.args.bus.now _
    (rw all (transacted-follows _ c.self.invariant c.args.bus.now allowed c.act.new.caches count acts c.index_mut.result.now
    (c.index_mut.ensures.value ∙ ap (λ these. get_or these c.args.bus.now.master c.index_mut.result.now) all)
    c.finish.new.self c.finish.ensures.sets))
