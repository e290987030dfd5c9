use Rattle.std.proofs.Common.{sym, ap, ◌∙◌, refl, arith, rules}
use Rattle.std.proofs.lemmas.Grind.{common_steps}
use Rattle.std.specs.Prelude.{Some}
use Rattle.mem_port.proofs.LoadedLaws.{asks-request}
use Rattle.core_run.specs.PlainView.{wanted_access}
use Rattle.core_run.proofs.PlainLemmas.{access-sound, answered}
use Rattle.core_run.proofs.plain.PlainCoreEngine.clock.Goals as goal

pub returns-in-Asks-clause-timed : goal.returns-in-Asks-clause-timed
returns-in-Asks-clause-timed c = λ p q was histories. record {
  clocks = grind (arith, common_steps);
  words = grind (arith, common_steps);
  accesses = grind (arith, common_steps);
  cycles = grind (arith, common_steps);
  unstalled = grind (arith, common_steps);
  drained = grind (arith, common_steps);
  sound = access-sound _ _ _ _ _ _ _
      (asks-request _ c.args.self.now.executed _ _ (sym c.in-Asks.ensures.next) ∙ ap Some (sym c.of.ensures.request));
}

pub returns-in-Some-clause-timed : goal.returns-in-Some-clause-timed
returns-in-Some-clause-timed c = λ p q was histories.
    answered p q _ _ _ _ _ c.in-Some.old c.in-Access.is (ap wanted_access c.in-Access.is) refl was (grind (arith, common_steps))
    (grind (arith, common_steps)) (grind (arith, common_steps)) (grind (arith, common_steps)) refl (grind (arith, common_steps))
    (grind (arith, common_steps)) (search rules)
