use Rattle.std.proofs.Common.{Option, ◌∙◌, ap, sym, refl, arith}
use Rattle.asm_layout.specs.declared.place.Place.{Place}
use Rattle.asm_token.specs.declared.fault.AsmCause.{AsmCause}
use Rattle.asm_layout.specs.Passes.{at_line, room_fault, room_test}
use Rattle.asm_layout.proofs.PlacesLaws.{moves_on}
use Rattle.asm_layout.proofs.PassesLemmas.{test_goes_on, test_fails, tests_done}
use Rattle.asm_layout.proofs.room.first_without_room.Goals as goal

pub loop-statement-init : goal.loop-statement-init
loop-statement-init c = record {
  stands = record {
    is = c.start-place.ensures.value;
    code = omega (arith, c.start-place.ensures.code);
    segment = omega (arith, c.start-place.ensures.segment, c.requires.end);
  };
  read = refl;
}

pub room_fault-requires-clause-code : goal.room_fault-requires-clause-code
room_fault-requires-clause-code c = omega (arith, c.loop-statement.invariant.stands.code)

pub room_fault-requires-clause-segment : goal.room_fault-requires-clause-segment
room_fault-requires-clause-segment c = omega (arith, c.loop-statement.invariant.stands.segment)

pub returns-in-Some : goal.returns-in-Some
returns-in-Some c =
    let inv = c.loop-statement.invariant in
    let fails = ap (λ (place : Place). room_fault c.args.memory place c.statement-item.result.body) (sym inv.stands.is)
    ∙ sym c.room_fault.ensures.value ∙ c.in-Some.is in
    let answer = test_fails (room_test c.args.memory c.args.end) c.loop-statement.statement-index c.args.statements.now
    c.statement-item.result (c.in-Some.cause, c.statement-item.result.line) c.loop-statement-test.true c.statement-item.is
    (ap (λ (cause : Option AsmCause). at_line c.statement-item.result.line cause) fails) in
    record { value = sym answer ∙ inv.read }

pub loop-statement-preserved : goal.loop-statement-preserved
loop-statement-preserved c =
    let inv = c.loop-statement.invariant in
    let passes = ap (λ (place : Place). room_fault c.args.memory place c.statement-item.result.body) (sym inv.stands.is)
    ∙ sym c.room_fault.ensures.value ∙ c.in_default.is in
    record {
      stands = moves_on c.args.end c.loop-statement.statement-index c.args.statements.now c.statement-item.result c.loop-statement.place _
          c.loop-statement-test.true c.statement-item.is inv.stands c.moved-place.ensures.value c.moved-place.ensures.code
          c.moved-place.ensures.segment;
      read = sym (test_goes_on (room_test c.args.memory c.args.end) c.loop-statement.statement-index c.args.statements.now
          c.statement-item.result c.loop-statement-test.true c.statement-item.is passes) ∙ inv.read;
    }

pub returns : goal.returns
returns c =
    let inv = c.loop-statement.invariant in
    record {
      value = sym (tests_done (room_test c.args.memory c.args.end) c.loop-statement.statement-index c.args.statements.now
          c.loop-statement-test.false) ∙ inv.read;
    }
