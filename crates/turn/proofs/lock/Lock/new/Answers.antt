use Rattle.std.proofs.Common.{subst, sym, ◌∷◌, ◌++◌, [], ap, ◌∙◌, ◌≡◌}
use Rattle.atomic_table.specs.Table.{opening}
use Rattle.turn.specs.Rule.{IsKept, opening_view}
use Rattle.turn.proofs.RuleSteps.{opens}
use Rattle.turn.proofs.lock.Lock.new.Goals as goal

pub new-requires : goal.new-requires
new-requires g c =
    let seen = g.S.Watched.seen in let m = c.args.memory in let o = c.of-about.result.value in
    let e : o ≡ m = c.of-about.ensures in
    let items : c.push_reserved.new.self.items ≡ m ∷ [] = c.push_reserved.ensures.items
    ∙ ap (λ l. l ++ m ∷ []) c.in_ok-slots.ensures.items in
    subst (λ l. IsKept seen o (opening (0 ∷ []) l (opening_view seen o))) (sym items)
    (subst (λ z. IsKept seen z (opening (0 ∷ []) (m ∷ []) (opening_view seen z))) (sym e) (opens seen m))
