use Rattle.std.proofs.Common.{refl, arith, append_assoc, append-nil}
use Rattle.asm_layout.proofs.PlacesLaws.{no_code, code_counted}
use Rattle.asm_link.proofs.CodeLemmas.{code_within, code_goes_on, code_done}
use Rattle.asm_link.proofs.code.code_words.Goals as goal

pub loop-statement-init : goal.loop-statement-init
loop-statement-init c = record {
  at = no_code;
  words = λ known holds. rw c.new-code.ensures.items refl;
}

pub push_code-requires-clause-room : goal.push_code-requires-clause-room
push_code-requires-clause-room c =
    omega (
      arith,
      c.loop-statement.invariant.at,
      c.requires.room,
      code_within c.args.statements.now c.statement-item.result c.loop-statement.statement-index c.loop-statement-test.true
          c.statement-item.is,
    )

pub overflow_add-here : goal.overflow_add-here
overflow_add-here c =
    omega (
      arith,
      c.loop-statement.invariant.at,
      c.requires.room,
      c.code_size-here.ensures.value,
      code_within c.args.statements.now c.statement-item.result c.loop-statement.statement-index c.loop-statement-test.true
          c.statement-item.is,
    )

pub loop-statement-preserved : goal.loop-statement-preserved
loop-statement-preserved c =
    let inv = c.loop-statement.invariant in
    record {
      at = code_counted c.loop-statement.statement-index c.args.statements.now c.statement-item.result c.loop-statement.here
          c.code_size-here.result c.loop-statement-test.true c.statement-item.is inv.at c.code_size-here.ensures.value;
      words = λ known holds.
          let pushed = c.in_ok-push_code.ensures.words known holds in
          let next = code_goes_on known c.args.statements.now c.statement-item.result c.loop-statement.statement-index
          c.loop-statement-test.true c.statement-item.is in
          rw (pushed, inv.at, append_assoc, ← next) (inv.words known holds);
    }

pub returns : goal.returns
returns c = record {
  words = λ known holds.
      let inv = c.loop-statement.invariant in
      let done = code_done known c.args.statements.now c.loop-statement.statement-index c.loop-statement-test.false in
      rw (← append-nil c.loop-statement.code.items, ← done) (inv.words known holds);
}
