use Rattle.std.proofs.Common.{rules}
use Rattle.cache_bus.proofs.MainLaws.{gathered-next, gathered-all}
use Rattle.cache_bus.proofs.main_memory.gather.Goals as goal

pub loop-line-preserved : goal.loop-line-preserved
loop-line-preserved c =
    gathered-next c.args.caches.now.items c.loop-line.line _ _ _ c.loop-line.invariant
    (search rules) c.write_owned.ensures.others c.write_owned.ensures.here

pub returns : goal.returns
returns c = record {
  gathered = λ memory coherent agrees.
      gathered-all c.args.caches.now.items _ _ _ memory (search rules) (search rules) c.loop-line.invariant coherent agrees;
}
