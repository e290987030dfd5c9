use Rattle.std.proofs.Common.{Option, ◌∙◌, ℕ, ap, sym, refl, arith}
use Rattle.asm_token.specs.declared.fault.AsmCause.{AsmCause}
use Rattle.asm_layout.specs.Passes.{at_line, operand_fault, operand_test}
use Rattle.asm_layout.proofs.PlacesLaws.{code_counted, no_code}
use Rattle.asm_layout.proofs.PassesLemmas.{test_goes_on, test_fails, tests_done}
use Rattle.asm_layout.proofs.operands.first_bad_operand.Goals as goal

pub loop-statement-init : goal.loop-statement-init
loop-statement-init c = record { counted = no_code; bound = omega arith; read = λ known holds. refl }

pub returns-in-Some : goal.returns-in-Some
returns-in-Some c =
    let inv = c.loop-statement.invariant in
    record {
      value = λ known holds.
          let fails = ap (λ (here : ℕ). operand_fault known here c.statement-item.result.body) (sym inv.counted)
          ∙ sym (c.operand_fault.ensures.value known holds) ∙ c.in-Some.is in
          let answer = test_fails (operand_test known) c.loop-statement.statement-index c.args.statements.now c.statement-item.result
          (c.in-Some.cause, c.statement-item.result.line) c.loop-statement-test.true c.statement-item.is
          (ap (λ (cause : Option AsmCause). at_line c.statement-item.result.line cause) fails) in
          sym answer ∙ inv.read known holds;
    }

pub loop-statement-preserved : goal.loop-statement-preserved
loop-statement-preserved c =
    let inv = c.loop-statement.invariant in
    record {
      counted = code_counted c.loop-statement.statement-index c.args.statements.now c.statement-item.result c.loop-statement.here
          c.code_size-here.result c.loop-statement-test.true c.statement-item.is inv.counted c.code_size-here.ensures.value;
      bound = omega (arith, inv.bound, c.code_size-here.ensures.bound);
      read = λ known holds.
          let passes = ap (λ (here : ℕ). operand_fault known here c.statement-item.result.body) (sym inv.counted)
          ∙ sym (c.operand_fault.ensures.value known holds) ∙ c.in_default.is in
          sym (test_goes_on (operand_test known) c.loop-statement.statement-index c.args.statements.now c.statement-item.result
          c.loop-statement-test.true c.statement-item.is passes) ∙ inv.read known holds;
    }

pub returns : goal.returns
returns c =
    let inv = c.loop-statement.invariant in
    record {
      value = λ known holds. sym (tests_done (operand_test known) c.loop-statement.statement-index c.args.statements.now
          c.loop-statement-test.false) ∙ inv.read known holds;
    }
