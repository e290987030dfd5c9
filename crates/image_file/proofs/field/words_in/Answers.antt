use Rattle.std.proofs.Common.{rules, ◌+◌, ◌-◌, arith}
use Rattle.std.proofs.lemmas.Result.{err_from_is_err_and}
use Rattle.image_file.specs.Reading.{words_in, may_stand}
use Rattle.image_file.proofs.ReadingLemmas.{words_go_on, words_end, words_done}
use Rattle.image_file.proofs.field.words_in.Goals as goal

pub returns-in_err-word-clause-value : goal.returns-in_err-word-clause-value
returns-in_err-word-clause-value c =
    let test = may_stand c.args.in_code in
    let p = err_from_is_err_and c.from_residual.result c.from_residual.ensures.1 in
    rw (p.1, p.2)
    (words_end test c.loop.words.items (c.args.count - c.loop.counter) (c.args.count - (c.loop.counter + 1)) c.loop.rest.now
    (words_in test c.args.count c.args.bytes.now) (omega arith) c.loop.invariant.read c.in_err-word.field-0.0
    c.in_err-word.ensures.value)

pub loop-preserved : goal.loop-preserved
loop-preserved c =
    let test = may_stand c.args.in_code in
    record {
      read = rw c.in_ok-push.ensures.items
          (words_go_on test c.loop.words.items (c.args.count - c.loop.counter) (c.args.count - (c.loop.counter + 1)) c.loop.rest.now
          (words_in test c.args.count c.args.bytes.now) (omega arith) c.loop.invariant.read c.in_ok-word.word c.in_ok-word.behind.now
          c.in_ok-word.ensures.value);
      len = search rules;
    }

pub returns-clause-value : goal.returns-clause-value
returns-clause-value c =
    let test = may_stand c.args.in_code in
    words_done test c.loop.words.items (c.args.count - c.loop.counter) c.loop.rest.now (words_in test c.args.count c.args.bytes.now)
    (omega arith) c.loop.invariant.read
