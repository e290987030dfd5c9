use Rattle.std.proofs.Common.{◌∙◌, ◌-◌, length, ap, arith, length-append}
use Rattle.std.proofs.lemmas.Result.{err_from_is_err_and}
use Rattle.kmp_base.proofs.ReadingLaws.{gives_fault, none_in_front}
use Rattle.row_reader.specs.Rows.{rows_of}
use Rattle.report_read.specs.Reading.{full_rows_at}
use Rattle.report_read.proofs.SizeLemmas.{text_size, bytes_size}
use Rattle.report_read.proofs.LoopLemmas.{full_go_on, full_fail, full_done}
use Rattle.report_read.proofs.image.full_rows.Goals as goal

pub loop-init : goal.loop-init
loop-init c =
    let none = c.new-bytes.ensures.items in
    record {
      read =
          none_in_front c.new-bytes.result.items (full_rows_at (c.args.rows - 0) (rows_of c.args.text.now)) none
          ∙ ap (λ n. full_rows_at n (rows_of c.args.text.now)) (omega arith);
      len = ap length none;
      twice = omega (arith, text_size c.args.text.now, ap length none);
      shorter = omega arith;
    }

pub returns-in_err-row-clause-found : goal.returns-in_err-row-clause-found
returns-in_err-row-clause-found c =
    let total = full_rows_at c.args.rows (rows_of c.args.text.now) in
    gives_fault _ _ c.from_residual.result total c.in_err-row.field-0.0
    (err_from_is_err_and c.from_residual.result c.from_residual.ensures.1)
    (full_fail c.loop.counter c.args.rows (rows_of c.loop.rest.now) c.loop.bytes.items total c.loop.invariant.read
    c.in_err-row.field-0.0 c.loop-test.true c.in_err-row.ensures.found)

pub loop-preserved : goal.loop-preserved
loop-preserved c =
    let so_far = c.loop.invariant in
    let row = c.in_ok-row.row in
    let here = c.in_ok-row.ensures.found in
    let size = bytes_size 32 (rows_of c.loop.rest.now) (rows_of c.in_ok-row.behind.now) row here in
    let joined = c.in_ok-extend_from_slice.ensures.items in
    let longer = ap length joined ∙ length-append c.loop.bytes.items row in
    record {
      read = rw joined (full_go_on c.loop.counter c.args.rows (rows_of c.loop.rest.now) c.loop.bytes.items
          (full_rows_at c.args.rows (rows_of c.args.text.now)) so_far.read (rows_of c.in_ok-row.behind.now) row c.loop-test.true here);
      len = omega (arith, longer, size.0, so_far.len);
      twice = omega (arith, longer, size.1, so_far.twice);
      shorter = omega (arith, c.in_ok-row.ensures.shorter, so_far.shorter);
    }

pub returns-clause-found : goal.returns-clause-found
returns-clause-found c =
    full_done c.loop.counter c.args.rows (rows_of c.loop.rest.now) c.loop.bytes.items (full_rows_at c.args.rows (rows_of c.args.text.now))
    c.loop.invariant.read (omega arith)
