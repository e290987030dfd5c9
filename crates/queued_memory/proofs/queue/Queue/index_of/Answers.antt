use Rattle.std.proofs.Common.{rules, tests, ◌∙◌, sym}
use Rattle.std.proofs.lemmas.Iterator.{YieldsList-from_slice}
use Rattle.std.proofs.lemmas.Iterator.Search.{position_from_yields_List}
use Rattle.queued_memory.specs.Queue.{same_port}
use Rattle.queued_memory.proofs.QueueLemmas.{index_of-position}
use Rattle.queued_memory.proofs.queue.Queue.index_of.Goals as goal

pub returns : goal.returns
returns c = record {
  index = position_from_yields_List (λ p. same_port p c.args.port) _ _ c.position.result c.position.ensures.ran
      (YieldsList-from_slice c.args.self.now.waiting.items cc) (λ x b q k. search (rules, tests))
      ∙ sym (index_of-position c.args.self.now.waiting.items c.args.port);
}
