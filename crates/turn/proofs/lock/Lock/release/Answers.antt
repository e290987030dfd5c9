use Rattle.std.proofs.Common.{rules, subst, sym, ℕ}
use Rattle.atomic_table.specs.Table.{Allows}
use Rattle.turn.specs.Rule.{IsKept, Releases}
use Rattle.turn.proofs.RuleSteps.{releases}
use Rattle.turn.proofs.lock.Lock.release.Goals as goal

pub store-requires : goal.store-requires
store-requires g c =
    let seen = g.S.Watched.seen in let seat = c.args.seat.now in let table = c.args.self.now.table.shared in (
      search rules,
      search rules,
      subst (λ (n : ℕ).
          Allows (IsKept seen table.key.value) n seat.id seat.me 0 (λ _. 0) (λ _. Releases seen g.C.Counting.event seat.me))
          (sym c.args.self.now.sized.1)
          (releases seen table.key.value g.C.Counting.event seat.id seat.me c.requires.may),
    )
