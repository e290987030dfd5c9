use Rattle.std.proofs.Common.{refl}
use Rattle.turn.specs.Numbers.{numbers}
use Rattle.turn.proofs.NumberLaws.{helped-new, paid-new}
use Rattle.turn.proofs.counted.Counted.new.Goals as goal

pub invariant_of-result : goal.invariant_of-result
unfolding numbers
invariant_of-result g c =
    let m = g.M.MemoryCore.view c.args.memory in
    record { lawful = c.requires.lawful; helped = helped-new m c.requires.ports; paid = paid-new m c.requires.lawful c.requires.ports }

pub returns-clause-numbers : goal.returns-clause-numbers
unfolding numbers
returns-clause-numbers g c = refl
