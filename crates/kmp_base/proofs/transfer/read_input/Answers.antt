use Rattle.std.proofs.Common.{◌∙◌, arith, length-append, length-take}
use Rattle.kmp_base.proofs.StreamLaws.{took_more}
use Rattle.kmp_base.proofs.transfer.read_input.Goals as goal

pub returns-then-is_err-2 : goal.returns-then-is_err-2
returns-then-is_err-2 g c = record {
  reads = record {
    bytes = (_, took_more _ _ _ _ _ c.input.invariant.0 c.in-Got.ensures.next, grind (arith, length-append, length-take));
    cause = c.in-Got.ensures.no_fault ∙ c.input.invariant.1;
    later = omega (arith, c.in-Got.ensures.no_fault, c.input.invariant.1);
  };
}
