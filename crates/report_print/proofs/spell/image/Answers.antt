use Rattle.std.proofs.Common.{◌∙◌, drop, ap, arith, rules, drop-drop}
use Rattle.hex.specs.Hex.{encode_with}
use Rattle.report_print.proofs.DigitLemmas.{digits_more}
use Rattle.report_print.proofs.spell.image.Goals as goal

pub numbers-init : goal.numbers-init
unfolding encode_with
numbers-init c = search rules

pub numbers-preserved : goal.numbers-preserved
numbers-preserved c =
    let before = c.numbers.invariant in record {
      bytes = rw (c.add_next.ensures.bytes, before.bytes, before.left, digits_more);
      left = c.add_next.ensures.left ∙ ap (drop 1) before.left ∙ drop-drop 1 c.numbers.counter c.args.numbers.now;
      room = omega arith;
    }
