use Rattle.std.proofs.Common.{arith, ap, ◌∙◌, ◌∷◌, ◌++◌, []}
use Rattle.std.proofs.lemmas.Grind.{common_steps}
use Rattle.item_check.proofs.HeldLemmas.{push_empty}
use Rattle.item_check.proofs.cache.HeldSets.new.Goals as goal

pub loop-preserved : goal.loop-preserved
loop-preserved c = record {
  count = grind (arith, common_steps);
  room = grind (arith, common_steps);
  empty = push_empty c.loop.sets.items _ (c.push_reserved.ensures.items ∙ ap (λ lines. c.loop.sets.items ++ lines ∷ []) c.new.ensures.empty)
      c.loop.invariant.empty;
}
