use Rattle.std.proofs.Common.{refl}
use Rattle.std.proofs.lemmas.Iterator.{items_from_collect}
use Rattle.std.proofs.lemmas.Iterator.Adapters.{YieldsList-from_vec, YieldsList-from_skip}
use Rattle.std.proofs.lemmas.Iterator.Consumers.{YieldsList-at}
use Rattle.kmp_call.proofs.given.without_name.Goals as goal

pub returns : goal.returns
returns c = record {
  words = items_from_collect _ c.collect.ensures.ran
      (YieldsList-from_skip 1 (YieldsList-at c.skip.ensures.source (YieldsList-from_vec c.args.args.rest.items refl c.args.args.rest.ok.0))
      c.skip.ensures.count);
}
