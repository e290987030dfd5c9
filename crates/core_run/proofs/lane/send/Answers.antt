use Rattle.std.proofs.Common.{refl}
use Rattle.core_run.proofs.lane.send.Goals as goal

pub returns-clause-made : goal.returns-clause-made
returns-clause-made g c = record {
  serves_on = c.serve.ensures.serves;
  lead = (_, (c.ask.ensures.made, (_, (c.serve.ensures.made, refl))));
  others = g.met.S.CoreSide.goes_on _ _ _ _ c.ask.ensures.others c.serve.ensures.others;
  paid = g.met.S.CoreSide.adds_up _ 0 0 _ _ _ c.ask.ensures.others c.ask.ensures.paid c.serve.ensures.paid;
}
