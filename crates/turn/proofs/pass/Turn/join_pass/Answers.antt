use Rattle.std.proofs.Common.{◌≡◌, subst, sym}
use Rattle.turn.specs.Views.{open_of}
use Rattle.turn.specs.Rule.{total, joined_cores}
use Rattle.turn.specs.Passes.{all_cores}
use Rattle.turn.proofs.Closing.{open-joined}
use Rattle.turn.proofs.pass.Turn.join_pass.Goals as goal

pub invariant_of-pass-clause-joined_rest : goal.invariant_of-pass-clause-joined_rest
invariant_of-pass-clause-joined_rest g c =
    let old = c.args.pass.now in let other = c.args.other in
    subst (λ me. total open_of (joined_cores me.0.cores) ≡ 0) (sym c.join.ensures.both)
    (open-joined (all_cores old) (all_cores other) old.some_core old.joined_rest c.requires.rest other.joined_rest)
