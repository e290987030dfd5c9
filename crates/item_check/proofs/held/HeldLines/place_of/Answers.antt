use Rattle.std.proofs.Common.{rules, tests, ◌==◌, ◌∙◌, sym}
use Rattle.std.proofs.lemmas.Iterator.{YieldsList-from_slice}
use Rattle.std.proofs.lemmas.Iterator.Search.{position_from_yields_List}
use Rattle.item_check.specs.declared.held.HeldLine.{HeldLine}
use Rattle.item_check.proofs.HeldLemmas.{place_of-position}
use Rattle.item_check.proofs.held.HeldLines.place_of.Goals as goal

pub returns : goal.returns
returns c = record {
  place = position_from_yields_List (λ (held : HeldLine). held.line == c.args.line) _ _ c.position.result c.position.ensures.ran
      (YieldsList-from_slice c.args.self.now cc) (λ held b q k. search (rules, tests))
      ∙ sym (place_of-position c.args.self.now c.args.line);
}
