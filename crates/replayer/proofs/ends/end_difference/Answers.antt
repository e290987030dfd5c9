use Rattle.std.proofs.Common.{◌≡◌, rules, false, refl}
use Rattle.std.proofs.lemmas.Bool.{eq-eqb}
use Rattle.row_check.specs.Judgments.{is_same_end}
use Rattle.replayer.proofs.ends.end_difference.Goals as goal

pub returns-then-ne : goal.returns-then-ne
returns-then-ne c =
    let same = eq-eqb c.args.kept.now.retired c.args.there.now.executed c.requires.retired in
    let differs : is_same_end c.args.kept.now.end c.due_end-due.result ≡ false = search rules in
    rw (c.end.ensures, same, ← c.due_end-due.ensures, differs) refl
