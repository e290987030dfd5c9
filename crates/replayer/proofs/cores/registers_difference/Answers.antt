use Rattle.std.proofs.Common.{ap, arith, ◌∙◌}
use Rattle.std.specs.Prelude.{Some}
use Rattle.std.proofs.lemmas.Bool.{eq-eqb, ne_eqb}
use Rattle.replayer.proofs.JudgeLemmas.{register_at, each_same, each_differs, each_done}
use Rattle.replayer.proofs.cores.registers_difference.Goals as goal

pub returns-then-kept-i : goal.returns-then-kept-i
returns-then-kept-i c =
    ap Some c.word.ensures
    ∙ each_differs (register_at c.args.line c.args.kept.now.regs c.args.due.now.regs) 32 c.loop-i.i c.loop-i-test.true
    (ne_eqb _ _ c.if-kept-i.true) c.loop-i.invariant

pub loop-i-preserved : goal.loop-i-preserved
loop-i-preserved c =
    each_same (register_at c.args.line c.args.kept.now.regs c.args.due.now.regs) 32 c.loop-i.i c.loop-i-test.true
    (eq-eqb _ _ c.if-kept-i.false) c.loop-i.invariant

pub returns : goal.returns
returns c = each_done (register_at c.args.line c.args.kept.now.regs c.args.due.now.regs) 32 c.loop-i.i (omega arith) c.loop-i.invariant
