use Rattle.mem_port.proofs.FlatLaws.{fresh-flat}
use Rattle.mem_port.proofs.flat.FlatMemory.new.Goals as goal

pub returns-clause-fresh : goal.returns-clause-fresh
returns-clause-fresh c =
    fresh-flat c.args.image.now c.args.cores c.args.asks _ _ c.in_ok-words.ensures.good
    c.in_ok-history.ensures.items (c.in_ok-cells.ensures.items_if_clones_equal (λ y e. e))
