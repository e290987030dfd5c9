use Rattle.std.proofs.Common.{sym, ap, ◌∙◌}
use Rattle.moesi_master.specs.Moesi.{after_hit}
use Rattle.item_check.proofs.HeldLaws.{entered-held, entered-follows, shown-core, shown-hit, shown-letter, shown-after}
use Rattle.item_check.proofs.fold.Letters.enter.Goals as goal

pub invariant_of-self : goal.invariant_of-self
invariant_of-self c =
    let entry = c.args.entry.now in
    entered-held _ c.self.invariant entry (shown-core _ _ (sym c.self.view_is) entry c.requires.core)
    (shown-hit _ _ (sym c.self.view_is) entry c.requires.hit) c.data_cache.result c.data_cache.ensures.cache c.index_mut.result.now
    c.set_letter.new.self c.after_hit-letter.result c.index_mut.ensures.value
    (shown-letter _ _ (sym c.self.view_is) entry _ _ c.data_letter.ensures.letter
    (c.after_hit-letter.ensures.after ∙ ap (after_hit c.data_letter.result) c.is_some.ensures)) c.set_letter.ensures.sets

pub returns-clause-letters : goal.returns-clause-letters
returns-clause-letters c =
    let entry = c.args.entry.now in
    shown-after _ _ (sym c.self.view_is) entry _
    (entered-follows _ c.self.invariant entry (shown-core _ _ (sym c.self.view_is) entry c.requires.core)
    (shown-hit _ _ (sym c.self.view_is) entry c.requires.hit) c.data_cache.result c.data_cache.ensures.cache c.index_mut.result.now
    c.set_letter.new.self c.after_hit-letter.result c.index_mut.ensures.value
    (shown-letter _ _ (sym c.self.view_is) entry _ _ c.data_letter.ensures.letter
    (c.after_hit-letter.ensures.after ∙ ap (after_hit c.data_letter.result) c.is_some.ensures)) c.set_letter.ensures.sets)
