use Rattle.std.proofs.Common.{rules, arith}
use Rattle.machine_tests.proofs.ScriptLaws.{fits-sends}
use Rattle.machine_tests.proofs.memories.Script.send.Goals as goal

pub returns : goal.returns
returns g c = record {
  fits = fits-sends _ _ _ c.requires.fits c.args.core _ _ _ (search rules) c.requires.core (omega arith) c.serve.ensures.lawful
      c.ask.ensures.asks (c.serve.ensures.serves _ c.ask.ensures.asks.port);
}
