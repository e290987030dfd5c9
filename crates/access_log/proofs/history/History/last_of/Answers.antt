use Rattle.std.proofs.Common.{arith, ◌∙◌}
use Rattle.std.specs.Prelude.{None}
use Rattle.std.specs.Option.{option_copied}
use Rattle.std_laws.proofs.OptionLaws.{option_flatten-unwrap_or}
use Rattle.access_log.proofs.IndexLaws.{last-is}
use Rattle.access_log.proofs.history.History.last_of.Goals as goal

-- The value of the lookup is the last index, or none past the list's end.
pub returns : goal.returns
returns c = record {
  last = rw (← c.self.view_is, c.flatten.ensures, c.copied.ensures)
      (option_flatten-unwrap_or (option_copied c.get.result) ∙ (c.get.ensures.lookup.4 (omega arith) None
      ∙ last-is c.self.inside.items.items c.self.inside.links.items c.self.inside.last c.args.core c.self.invariant.0));
}
