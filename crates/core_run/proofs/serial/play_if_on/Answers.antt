use Rattle.std.proofs.Common.{rules, ◌+◌, subst, ap, ◌∙◌, ℕ}
use Rattle.std_laws.proofs.OptionLaws.{none_from_is_some}
use Rattle.core_run.specs.Serial.{Receives}
use Rattle.core_run.proofs.TurnLemmas.{one-turn}
use Rattle.core_run.proofs.serial.play_if_on.Goals as goal

pub play-requires-clause-slot : goal.play-requires-clause-slot
play-requires-clause-slot g c = c.requires.at.1.slot

pub play-requires-clause-no_end : goal.play-requires-clause-no_end
play-requires-clause-no_end g c = none_from_is_some c.args.slot.now.end (search rules)

pub returns-clause-made : goal.returns-clause-made
returns-clause-made g c =
    let f = c.play.ensures in
    one-turn g.M.MemoryCore.makes c.args.slot.now.lane.core _ f.made.0 _ _ f.made.1.0 f.made.1.1

pub returns-clause-at : goal.returns-clause-at
returns-clause-at g c rounds at =
    let none = none_from_is_some c.args.slot.now.end (search rules) in
    record { slot = c.play.ensures.slot; count = λ runs_on. c.play.ensures.cycles ∙ ap (λ k. k + 1) (at.count none) }

pub returns-clause-served : goal.returns-clause-served
returns-clause-served g c rounds history at served =
    let after = c.play.ensures.served history served in
    let view = g.M.MemoryCore.view in
    let none = none_from_is_some c.args.slot.now.end (search rules) in
    let R : ℕ → Type 0 = λ k. Receives c.args.slot.now.lane.core k (view c.args.memory.now).history (view c.play.new.memory).history history
    after.0 in
    (after.0, (after.1.0, λ once. subst R (c.play.ensures.cycles ∙ ap (λ k. k + 1) (at.count none)) (after.1.1 once)))
