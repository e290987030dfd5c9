use Rattle.std.proofs.Common.{arith, sym, subst}
use Rattle.queued_memory.specs.Queue.{QueueView, queued, StaysFresh}
use Rattle.queued_memory.proofs.QueueLaws.{stays-fresh}
use Rattle.queued_memory.proofs.memory.QueuedMemory.new.Goals as goal

pub returns-clause-fresh : goal.returns-clause-fresh
returns-clause-fresh g c =
    let Stays : QueueView → Type 0 =
    λ queue. StaysFresh (g.M.MemoryCore.view c.args.memory) (queued queue (g.M.MemoryCore.view c.args.memory)) in
    subst Stays (sym c.in_ok-queue.ensures.empty)
    (stays-fresh _ _ c.requires.lawful c.requires.at_once (omega (arith, c.requires.cores_are)))
