use Rattle.std.proofs.Common.{rules, subst, sym, ◌∙◌, ◌≡◌, ℕ, ◌+◌, eqb, arith}
use prog.Atomic.{either}
use Rattle.atomic_table.specs.Table.{Allows}
use Rattle.turn.specs.Rule.{IsKept, Acquires, own_core}
use Rattle.turn.specs.Holding.{IsResting, HasTurn}
use Rattle.turn.proofs.RuleSteps.{acquires, has_turn}
use Rattle.turn.proofs.lock.Lock.acquire.Goals as goal

pub compare_exchange-found-requires : goal.compare_exchange-found-requires
compare_exchange-found-requires g c =
    let seen = g.S.Watched.seen in let seat = c.loop.seat in let table = c.args.self.now.table.shared in
    let k : ℕ = c.from-number.result + 1 in
    let r : IsResting c.args.core seat.me = subst (IsResting c.args.core) (sym c.loop.invariant.1) c.requires.rests in
    let number : k ≡ (own_core seat.me.0.cores).core + 1 = omega (arith, c.from-number.ensures, r.named) in (
      c.loop.invariant.0 ∙ c.requires.lock,
      search rules,
      subst (λ (n : ℕ).
          Allows (IsKept seen table.key.value) n seat.id seat.me 0 (λ n. either (eqb n 0) k n) (Acquires seen seat.me))
          (sym c.args.self.now.sized.1)
          (acquires seen table.key.value seat.id k seat.me r.empty r.idle r.some_core number),
    )

pub returns-then-found-eq0-clause-lock : goal.returns-then-found-eq0-clause-lock
returns-then-found-eq0-clause-lock g c = c.compare_exchange-found.ensures.0 ∙ c.loop.invariant.0

pub returns-then-found-eq0-clause-held : goal.returns-then-found-eq0-clause-held
returns-then-found-eq0-clause-held g c =
    let seen = g.S.Watched.seen in
    let r : IsResting c.args.core c.loop.seat.me = subst (IsResting c.args.core) (sym c.loop.invariant.1) c.requires.rests in
    subst (λ m. HasTurn seen m c.compare_exchange-found.new.seat.me) c.loop.invariant.1
    (has_turn seen c.args.self.now.table.shared.key.value c.loop.seat.me c.compare_exchange-found.new.seat.me
    c.compare_exchange-found.result
    r.some_core c.if-found-eq0.true c.compare_exchange-found.ensures.2)
