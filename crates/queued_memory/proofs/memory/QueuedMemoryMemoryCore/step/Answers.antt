use Rattle.std.proofs.Common.{arith, refl, sym, ◌∙◌, Some, subst, ap, ◌<◌, length}
use Rattle.std.proofs.Math.Nat.{pos_of_ne-zero}
use Rattle.std.proofs.lemmas.Bool.{eqb-false}
use Rattle.mem_port.specs.Memory.{IsLawful, Moves}
use Rattle.queued_memory.specs.Queue.{QueueView, seen, answered, queued, IsQueue}
use Rattle.queued_memory.proofs.QueueLemmas.{index_of-slice_get}
use Rattle.queued_memory.proofs.QueueLaws.{queued-lawful, cores-same}
use Rattle.queued_memory.proofs.CallLaws.{counts-queued, counts-made, asked-waiting, answers-keeps, steps-answer, answers-made}
use Rattle.queued_memory.proofs.memory.QueuedMemoryMemoryCore.step.Goals as goal

pub returns-then-self-gt1-clause-steps : goal.returns-then-self-gt1-clause-steps
returns-then-self-gt1-clause-steps g c =
    let some : 0 < length c.args.self.now.queue.waiting.items =
    omega (arith, pos_of_ne-zero (eqb-false _ 0 (sym c.is_empty.ensures ∙ c.if-is_empty.false)))
    in counts-queued _ _ c.args.self.now.ordered some c.if-self-gt1.true

pub returns-then-self-gt1-clause-made : goal.returns-then-self-gt1-clause-made
returns-then-self-gt1-clause-made g c =
    let some : 0 < length c.args.self.now.queue.waiting.items =
    omega (arith, pos_of_ne-zero (eqb-false _ 0 (sym c.is_empty.ensures ∙ c.if-is_empty.false))) in
    record {
      obeys = counts-queued _ _ c.args.self.now.ordered some c.if-self-gt1.true;
      queue = counts-made _ _ c.args.self.now.ordered some c.if-self-gt1.true c.args.choice;
    }

pub serve-requires-clause-core : goal.serve-requires-clause-core
serve-requires-clause-core g c =
    let at = index_of-slice_get c.args.self.now.queue.waiting.items c.answer-port.result _ c.args.self.now.ordered.distinct
    c.answer-port.ensures.port
    in
    c.args.self.now.ordered.within c.answer-port.result _ at

pub serve-requires-clause-asked : goal.serve-requires-clause-asked
serve-requires-clause-asked g c =
    let at = index_of-slice_get c.args.self.now.queue.waiting.items c.answer-port.result _ c.args.self.now.ordered.distinct
    c.answer-port.ensures.port
    in
    asked-waiting _ _ c.args.self.now.ordered c.answer-port.result _ at

pub invariant_of-self-2-clause-ordered : goal.invariant_of-self-2-clause-ordered
invariant_of-self-2-clause-ordered g c =
    let at = index_of-slice_get c.args.self.now.queue.waiting.items c.answer-port.result _ c.args.self.now.ordered.distinct
    c.answer-port.ensures.port
    in
    let Ordered : QueueView → Type 0 = λ queue. IsQueue queue (g.M.MemoryCore.view c.serve.new.self) in
    subst Ordered (sym c.answer-port.ensures.queue)
    (answers-keeps _ _ c.args.self.now.ordered c.answer-port.result _ _ at c.serve.ensures.lawful c.serve.ensures.serves)

pub invariant_of-self-2-clause-room : goal.invariant_of-self-2-clause-room
invariant_of-self-2-clause-room g c =
    let at = index_of-slice_get c.args.self.now.queue.waiting.items c.answer-port.result _ c.args.self.now.ordered.distinct
    c.answer-port.ensures.port
    in
    let kept = answers-keeps _ _ c.args.self.now.ordered c.answer-port.result _ _ at c.serve.ensures.lawful c.serve.ensures.serves in
    omega (arith, cores-same _ _ c.args.self.now.ordered _ _ refl kept, c.args.self.now.room, c.answer-port.ensures.room)

pub returns-clause-lawful : goal.returns-clause-lawful
returns-clause-lawful g c =
    let at = index_of-slice_get c.args.self.now.queue.waiting.items c.answer-port.result _ c.args.self.now.ordered.distinct
    c.answer-port.ensures.port
    in
    let Lawful : QueueView → Type 0 = λ queue. IsLawful (queued queue (g.M.MemoryCore.view c.serve.new.self)) in
    subst Lawful (sym c.answer-port.ensures.queue)
    (queued-lawful _ _ (answers-keeps _ _ c.args.self.now.ordered c.answer-port.result _ _ at c.serve.ensures.lawful
    c.serve.ensures.serves))

pub returns-clause-steps : goal.returns-clause-steps
returns-clause-steps g c =
    let at = index_of-slice_get c.args.self.now.queue.waiting.items c.answer-port.result _ c.args.self.now.ordered.distinct
    c.answer-port.ensures.port
    in
    let next = c.next_index-index.ensures.index in
    let Moved : QueueView → Type 0 =
    λ queue. Moves (queued (seen c.args.self.now.queue) (g.M.MemoryCore.view c.args.self.now.memory))
    (queued queue (g.M.MemoryCore.view c.serve.new.self)) in
    subst Moved (sym (c.answer-port.ensures.queue ∙ ap (λ index. answered index (seen c.args.self.now.queue)) next))
    (steps-answer _ _ c.args.self.now.ordered c.args.choice c.answer-port.result _ (at ∙ ap (λ index. Some index) next)
    c.serve.ensures.lawful c.serve.ensures.serves)

pub returns-clause-made : goal.returns-clause-made
returns-clause-made g c =
    let some : 0 < length c.args.self.now.queue.waiting.items =
    omega (arith, pos_of_ne-zero (eqb-false _ 0 (sym c.is_empty.ensures ∙ c.if-is_empty.false))) in
    record {
      obeys = returns-clause-steps g c;
      queue = c.answer-port.ensures.queue
          ∙ (ap (λ index. answered index (seen c.args.self.now.queue)) c.next_index-index.ensures.index
          ∙ answers-made _ _ c.args.self.now.ordered some c.if-self-gt1.false c.args.choice);
    }
