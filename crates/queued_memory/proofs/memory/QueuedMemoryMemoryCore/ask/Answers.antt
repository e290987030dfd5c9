use Rattle.std.proofs.Common.{refl}
use Rattle.queued_memory.proofs.QueueLaws.{queued-lawful}
use Rattle.queued_memory.proofs.CallLaws.{asks-keeps, asks-queued}
use Rattle.queued_memory.proofs.memory.QueuedMemoryMemoryCore.ask.Goals as goal

pub invariant_of-self-clause-ordered : goal.invariant_of-self-clause-ordered
invariant_of-self-clause-ordered g c =
    asks-keeps _ _ c.args.self.now.ordered c.args.port c.args.request _ c.requires.free c.ask.ensures.lawful c.ask.ensures.asks

pub returns : goal.returns
returns g c =
    let asks = asks-queued _ _ c.args.self.now.ordered c.args.port c.args.request _ c.requires.free c.requires.core c.ask.ensures.asks in
    record {
      lawful = queued-lawful _ _ (asks-keeps _ _ c.args.self.now.ordered c.args.port c.args.request _ c.requires.free c.ask.ensures.lawful
          c.ask.ensures.asks);
      asks = asks;
      made = record { obeys = asks; queue = refl };
    }
