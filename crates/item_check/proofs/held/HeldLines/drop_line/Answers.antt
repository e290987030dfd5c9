use Rattle.std.proofs.Common.{rules, ◌∙◌, ap}
use Rattle.arrayvec.proofs.ArrayVecLemmas.{filter-from_retain}
use Rattle.item_check.specs.Held.{without}
use Rattle.item_check.proofs.held.HeldLines.drop_line.Goals as goal

pub returns : goal.returns
returns c = record {
  lines = filter-from_retain _ _ _ (λ x b f' y called. search rules) _ _ c.retain.ensures.filtered
      ∙ ap (without c.args.line) c.self.view_is;
}
