use Rattle.std.proofs.Common.{arith, refl, ◌∙◌, sym}
use Rattle.queued_memory.proofs.QueueLaws.{queued-lawful, cores-same}
use Rattle.queued_memory.proofs.CallLaws.{takes-keeps, takes-queued}
use Rattle.queued_memory.proofs.memory.QueuedMemoryMemoryCore.take.Goals as goal

pub invariant_of-self-clause-ordered : goal.invariant_of-self-clause-ordered
invariant_of-self-clause-ordered g c =
    let none = sym c.index_of.ensures.index ∙ c.in-None.is in
    takes-keeps _ _ c.args.self.now.ordered c.args.port _ _ none c.take.ensures.lawful c.take.ensures.takes

pub invariant_of-self-clause-room : goal.invariant_of-self-clause-room
invariant_of-self-clause-room g c =
    let none = sym c.index_of.ensures.index ∙ c.in-None.is in
    let kept = takes-keeps _ _ c.args.self.now.ordered c.args.port _ _ none c.take.ensures.lawful c.take.ensures.takes in
    omega (arith, cores-same _ _ c.args.self.now.ordered _ _ refl kept, c.args.self.now.room)

pub returns-in-None : goal.returns-in-None
returns-in-None g c =
    let none = sym c.index_of.ensures.index ∙ c.in-None.is in
    let kept = takes-keeps _ _ c.args.self.now.ordered c.args.port _ _ none c.take.ensures.lawful c.take.ensures.takes in
    let takes = takes-queued _ _ c.args.self.now.ordered c.args.port _ _ none c.requires.core c.take.ensures.takes in
    record { lawful = queued-lawful _ _ kept; takes = takes; made = record { obeys = takes; queue = refl } }
