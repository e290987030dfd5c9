use Rattle.std.proofs.Common.{arith, refl, sym, ◌∙◌, subst, ap}
use Rattle.mem_port.specs.Memory.{IsLawful, Withdraws}
use Rattle.queued_memory.specs.Queue.{QueueView, seen, left_by, queued, IsQueue}
use Rattle.queued_memory.proofs.QueueLemmas.{index_of-within}
use Rattle.queued_memory.proofs.QueueLaws.{queued-lawful, cores-same}
use Rattle.queued_memory.proofs.CallLaws.{left-keeps, withdraws-keeps, withdraws-queued, withdrawn-keeps, withdraws-waiting}
use Rattle.queued_memory.proofs.memory.QueuedMemoryMemoryCore.withdraw.Goals as goal

pub leave-requires : goal.leave-requires
leave-requires g c =
    let at = sym c.index_of.ensures.index ∙ c.in-Some.is in
    omega (arith, index_of-within c.args.self.now.queue.waiting.items c.args.port _ at)

pub invariant_of-self-clause-ordered : goal.invariant_of-self-clause-ordered
invariant_of-self-clause-ordered g c =
    let at = sym c.index_of.ensures.index ∙ c.in-Some.is in
    let Ordered : QueueView → Type 0 = λ queue. IsQueue queue (g.M.MemoryCore.view c.withdraw.new.self) in
    subst Ordered (sym c.leave.ensures.queue)
    (withdrawn-keeps _ _ c.args.self.now.ordered c.args.port c.in-Some.index _ _ at c.withdraw.ensures.lawful
    c.withdraw.ensures.withdraws)

pub invariant_of-self-clause-room : goal.invariant_of-self-clause-room
invariant_of-self-clause-room g c =
    let at = sym c.index_of.ensures.index ∙ c.in-Some.is in
    let kept = withdrawn-keeps _ _ c.args.self.now.ordered c.args.port c.in-Some.index _ _ at c.withdraw.ensures.lawful
    c.withdraw.ensures.withdraws in
    omega (
      arith,
      cores-same _ _ c.args.self.now.ordered _ _ (left-keeps _ _ c.args.self.now.ordered c.in-Some.index) kept,
      c.args.self.now.room,
      c.leave.ensures.room,
    )

pub returns-in-Some-clause-lawful : goal.returns-in-Some-clause-lawful
returns-in-Some-clause-lawful g c =
    let at = sym c.index_of.ensures.index ∙ c.in-Some.is in
    let Lawful : QueueView → Type 0 = λ queue. IsLawful (queued queue (g.M.MemoryCore.view c.withdraw.new.self)) in
    subst Lawful (sym c.leave.ensures.queue)
    (queued-lawful _ _ (withdrawn-keeps _ _ c.args.self.now.ordered c.args.port c.in-Some.index _ _ at c.withdraw.ensures.lawful
    c.withdraw.ensures.withdraws))

pub returns-in-Some-clause-withdraws : goal.returns-in-Some-clause-withdraws
returns-in-Some-clause-withdraws g c =
    let at = sym c.index_of.ensures.index ∙ c.in-Some.is in
    let Does : QueueView → Type 0 =
    λ queue. Withdraws c.withdraw.result c.args.port (queued (seen c.args.self.now.queue) (g.M.MemoryCore.view c.args.self.now.memory))
    (queued queue (g.M.MemoryCore.view c.withdraw.new.self)) in
    subst Does (sym c.leave.ensures.queue)
    (withdraws-waiting _ _ c.args.self.now.ordered c.args.port c.in-Some.index _ _ at c.withdraw.ensures.withdraws)

pub returns-in-Some-clause-made : goal.returns-in-Some-clause-made
returns-in-Some-clause-made g c =
    let at = sym c.index_of.ensures.index ∙ c.in-Some.is in
    record {
      obeys = returns-in-Some-clause-withdraws g c;
      queue = c.leave.ensures.queue
          ∙ ap (λ index. left_by index (seen c.args.self.now.queue)) (sym at);
    }

pub invariant_of-self-2-clause-ordered : goal.invariant_of-self-2-clause-ordered
invariant_of-self-2-clause-ordered g c =
    let none = sym c.index_of.ensures.index ∙ c.in_default.is in
    withdraws-keeps _ _ c.args.self.now.ordered c.args.port _ _ none c.withdraw-2.ensures.lawful c.withdraw-2.ensures.withdraws

pub invariant_of-self-2-clause-room : goal.invariant_of-self-2-clause-room
invariant_of-self-2-clause-room g c =
    let none = sym c.index_of.ensures.index ∙ c.in_default.is in
    let kept = withdraws-keeps _ _ c.args.self.now.ordered c.args.port _ _ none c.withdraw-2.ensures.lawful c.withdraw-2.ensures.withdraws
    in
    omega (arith, cores-same _ _ c.args.self.now.ordered _ _ refl kept, c.args.self.now.room)

pub returns : goal.returns
returns g c =
    let none = sym c.index_of.ensures.index ∙ c.in_default.is in
    let withdraws = withdraws-queued _ _ c.args.self.now.ordered c.args.port _ _ none c.requires.core c.withdraw-2.ensures.withdraws in
    record {
      lawful = queued-lawful _ _ (withdraws-keeps _ _ c.args.self.now.ordered c.args.port _ _ none c.withdraw-2.ensures.lawful
          c.withdraw-2.ensures.withdraws);
      withdraws = withdraws;
      made = record { obeys = withdraws; queue = ap (λ index. left_by index (seen c.args.self.now.queue)) (sym none) };
    }
