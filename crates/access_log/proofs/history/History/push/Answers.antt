use Rattle.std.proofs.Common.{rules, arith}
use Rattle.std.proofs.lemmas.List.Elements.{All-push}
use Rattle.access_log.specs.declared.Item.TheVariants.{Done, Bus}
use Rattle.access_log.specs.Items.{HasWords}
use Rattle.access_log.proofs.IndexLaws.{IsLinked-entry, IsLinked-transaction}
use Rattle.access_log.proofs.history.History.push.Goals as goal
use Rattle.access_log.proofs.history.History.push.Goals.{in-Done, in-Bus}

pub invariant_of-self : goal.invariant_of-self
invariant_of-self c = (
  elim c.match-item.branch [
    | in-Done w ↦
        rw (
          c.push_reserved.ensures.items,
          c.push_reserved-2.ensures.items,
          w.item-is,
          w.link-is,
          w.self-inside-is,
          w.replace-link.ensures.value,
          w.replace-link.ensures.after,
          c.len-index.ensures,
          c.self.inside.items.ok.0,
        )
        (IsLinked-entry c.self.inside.items.items c.self.inside.links.items c.self.inside.last w.in-Done.entry c.self.invariant.0
        (rw w.in-Done.is at c.requires.core))
    | in-Bus w ↦
        rw (c.push_reserved.ensures.items, c.push_reserved-2.ensures.items, w.item-is, w.link-is, w.self-inside-is, w.in-Bus.is)
        (IsLinked-transaction c.self.inside.items.items c.self.inside.links.items c.self.inside.last w.in-Bus.field-0 c.self.invariant.0)
  ],
  grind arith,
  rw (c.push_reserved-2.ensures.len, c.push_reserved-2.ensures.capacity) (grind arith),
  grind arith,
  elim c.match-item.branch [
    | in-Done w ↦
        rw (c.push_reserved.ensures.items, w.item-is, w.self-inside-is)
        (All-push HasWords c.self.inside.items.items (Done w.in-Done.entry) c.self.invariant.4 (omega arith, search rules))
    | in-Bus w ↦
        rw (c.push_reserved.ensures.items, w.item-is, w.self-inside-is, w.in-Bus.is)
        (All-push HasWords c.self.inside.items.items (Bus w.in-Bus.field-0) c.self.invariant.4 tt)
  ],
)
