use Rattle.std.proofs.Common.{refl, arith, rules}
use Rattle.std.proofs.lemmas.Grind.{common_steps}
use Rattle.core_run.specs.declared.plain.Phase.TheVariants.{FoundDone}
use Rattle.core_run.proofs.PlainLemmas.{waits_for, answered}
use Rattle.core_run.proofs.plain.PlainCoreEngine.drain.Goals as goal

pub returns-clause-timed : goal.returns-clause-timed
returns-clause-timed c = λ p q was drains.
    let waits = waits_for c.args.self.now.phase c.requires.wants in
    answered p q _ _ c.args.self.now.phase FoundDone waits.0 c.in-Some.old waits.1.0 waits.1.1 refl was (grind (arith, common_steps))
    (grind (arith, common_steps)) (grind (arith, common_steps)) (grind (arith, common_steps)) refl (grind (arith, common_steps))
    (grind (arith, common_steps)) (search rules)
