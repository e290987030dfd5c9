use Rattle.mem_system.proofs.SystemLaws.{fresh-system}
use Rattle.mem_system.proofs.system.MemSystem.new.Goals as goal

pub returns : goal.returns
returns c = record {
  fresh = fresh-system c.args.image.now c.args.cores c.args.sets c.args.asks _ _ _ c.in_ok-bus.ensures.empty
      (c.in_ok-cells.ensures.items_if_clones_equal (λ y e. e)) c.in_ok-queue.ensures.items;
}
