use Rattle.std.proofs.Common.{arith, sym, subst}
use Rattle.mem_port.specs.Memory.{IsLawful, Serves}
use Rattle.queued_memory.specs.Queue.{QueueView, seen, queued, IsQueue}
use Rattle.queued_memory.proofs.QueueLaws.{queued-lawful}
use Rattle.queued_memory.proofs.CallLaws.{serves-keeps, serves-queued, serves-room}
use Rattle.queued_memory.proofs.memory.QueuedMemoryMemoryCore.serve.Goals as goal

pub join-requires : goal.join-requires
join-requires g c =
    omega (
      arith,
      serves-room _ _ c.args.self.now.ordered c.args.port c.requires.asked.0 c.requires.asked.1 c.requires.core,
      c.args.self.now.room,
    )

pub invariant_of-self-clause-ordered : goal.invariant_of-self-clause-ordered
invariant_of-self-clause-ordered g c =
    let Ordered : QueueView → Type 0 = λ queue. IsQueue queue (g.M.MemoryCore.view c.args.self.now.memory) in
    subst Ordered (sym c.join.ensures.queue)
    (serves-keeps _ _ c.args.self.now.ordered c.args.port c.requires.asked.0 c.requires.asked.1 c.requires.core)

pub returns-clause-lawful : goal.returns-clause-lawful
returns-clause-lawful g c =
    let Lawful : QueueView → Type 0 = λ queue. IsLawful (queued queue (g.M.MemoryCore.view c.args.self.now.memory)) in
    subst Lawful (sym c.join.ensures.queue)
    (queued-lawful _ _ (serves-keeps _ _ c.args.self.now.ordered c.args.port c.requires.asked.0 c.requires.asked.1 c.requires.core))

pub returns-clause-serves : goal.returns-clause-serves
returns-clause-serves g c r asked =
    let m = g.M.MemoryCore.view c.args.self.now.memory in
    let Does : QueueView → Type 0 = λ queue. Serves c.args.port r (queued (seen c.args.self.now.queue) m) (queued queue m) in
    subst Does (sym c.join.ensures.queue) (serves-queued _ _ c.args.self.now.ordered c.args.port r asked)

pub returns-clause-made : goal.returns-clause-made
returns-clause-made g c = record { obeys = returns-clause-serves g c; queue = c.join.ensures.queue }
