use Rattle.std.proofs.Common.{rules}
use Rattle.machine_tests.proofs.ScriptLaws.{fits-withdraws}
use Rattle.machine_tests.proofs.memories.Script.withdraw.Goals as goal

pub returns : goal.returns
returns g c = record {
  fits = fits-withdraws _ _ _ c.requires.fits c.args.core _ _ (search rules) c.requires.core c.withdraw-withdrawal.ensures.lawful
      c.withdraw-withdrawal.ensures.withdraws;
}
