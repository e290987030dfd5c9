use Rattle.std.proofs.Common.{ap, arith, ◌∙◌}
use Rattle.std.specs.Prelude.{Some}
use Rattle.std.proofs.lemmas.Bool.{eq-eqb, ne_eqb}
use Rattle.replayer.proofs.JudgeLemmas.{count_at, each_same, each_differs, each_done}
use Rattle.replayer.proofs.counts.counts_difference.Goals as goal

pub returns-then-kept-i : goal.returns-then-kept-i
returns-then-kept-i c =
    ap Some c.number.ensures
    ∙ each_differs (count_at c.args.line c.args.kept.now.values c.args.due.now.values) 13 c.loop-i.i c.loop-i-test.true
    (ne_eqb _ _ c.if-kept-i.true) c.loop-i.invariant

pub loop-i-preserved : goal.loop-i-preserved
loop-i-preserved c =
    each_same (count_at c.args.line c.args.kept.now.values c.args.due.now.values) 13 c.loop-i.i c.loop-i-test.true
    (eq-eqb _ _ c.if-kept-i.false) c.loop-i.invariant

pub returns : goal.returns
returns c = each_done (count_at c.args.line c.args.kept.now.values c.args.due.now.values) 13 c.loop-i.i (omega arith) c.loop-i.invariant
