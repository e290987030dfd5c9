use Rattle.std.proofs.Common.{◌∙◌, sym, refl, arith}
use Rattle.std.proofs.lemmas.List.{take_all}
use Rattle.std.proofs.lemmas.Result.{err_from_is_err_and}
use Rattle.asm_layout.specs.Passes.{twice_test}
use Rattle.asm_layout.proofs.PlacesLaws.{moves_on}
use Rattle.asm_layout.proofs.LabelsLemmas.{labels_more, none_held}
use Rattle.asm_layout.proofs.PassesLemmas.{test_goes_on, error_fails, tests_done}
use Rattle.asm_layout.proofs.labels.labels_of.Goals as goal

pub loop-statement-init : goal.loop-statement-init
loop-statement-init c = record {
  stands = record {
    is = c.start-place.ensures.value;
    code = omega (arith, c.start-place.ensures.code);
    segment = omega (arith, c.start-place.ensures.segment, c.requires.end);
  };
  held = none_held c.args.end c.new-labels.result c.new-labels.ensures.empty;
  read = refl;
}

pub loop-statement-preserved : goal.loop-statement-preserved
loop-statement-preserved c =
    let inv = c.loop-statement.invariant in
    let added = c.in_ok-add_label.ensures.added _ inv.held in
    record {
      stands = moves_on c.args.end c.loop-statement.statement-index c.args.statements.now c.statement-item.result c.loop-statement.place _
          c.loop-statement-test.true c.statement-item.is inv.stands c.moved-place.ensures.value c.moved-place.ensures.code
          c.moved-place.ensures.segment;
      held = rw (← labels_more c.args.end c.loop-statement.statement-index c.args.statements.now c.statement-item.result
          c.loop-statement.place c.loop-statement-test.true c.statement-item.is inv.stands.is) added.1;
      read = sym (test_goes_on (twice_test c.args.end) c.loop-statement.statement-index c.args.statements.now c.statement-item.result
          c.loop-statement-test.true c.statement-item.is added.0) ∙ inv.read;
    }

pub returns-in_err-add_label-clause-failed : goal.returns-in_err-add_label-clause-failed
returns-in_err-add_label-clause-failed c =
    let p = err_from_is_err_and c.from_residual.result c.from_residual.ensures.1 in
    let inv = c.loop-statement.invariant in
    rw (p.1, p.2, ← inv.read) (error_fails (twice_test c.args.end) c.loop-statement.statement-index c.args.statements.now
    c.statement-item.result c.in_err-add_label.field-0.0 c.loop-statement-test.true c.statement-item.is
    (c.in_err-add_label.ensures.failed _ inv.held))

pub returns-clause-none_twice : goal.returns-clause-none_twice
returns-clause-none_twice c =
    let inv = c.loop-statement.invariant in
    sym inv.read ∙ tests_done (twice_test c.args.end) c.loop-statement.statement-index c.args.statements.now c.loop-statement-test.false

pub returns-clause-labels : goal.returns-clause-labels
returns-clause-labels c = rw (← take_all _ c.args.statements.now c.loop-statement-test.false) c.loop-statement.invariant.held
