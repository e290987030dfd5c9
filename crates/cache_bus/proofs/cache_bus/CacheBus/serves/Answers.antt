use Rattle.std.proofs.Common.{ap, ◌∙◌}
use Rattle.cache_bus.specs.View.{serves_now}
use Rattle.cache_bus.proofs.AnswerLaws.{serves-told}
use Rattle.cache_bus.proofs.cache_bus.CacheBus.serves.Goals as goal

pub returns : goal.returns
returns c = record {
  serves = c.serves.ensures.serves ∙ (rw c.stores.ensures.value (serves-told _ c.self.invariant c.args.cache
      c.self.inside.history.spare c.args.request.now c.letter_at-letter.result c.slave_at-slave.result c.letter_at-letter.ensures.letter
      c.slave_at-slave.ensures.slave) ∙ ap (λ v. serves_now v c.args.cache c.args.request.now) c.self.view_is);
}
