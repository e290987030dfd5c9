use Rattle.std.proofs.Common.{[], ap, ◌∙◌, take, drop, ◌+◌, Ok, arith, length-set}
use Rattle.std.proofs.lemmas.List.{take_all, take_more_set, drop_all, drop_more}
use Rattle.std.proofs.lemmas.Result.{err_from_is_err_and}
use Rattle.kmp_base.proofs.ReadingLaws.{gives_fault}
use Rattle.row_reader.specs.Rows.{rows_of}
use Rattle.row_reader.specs.Reading.{row_at}
use Rattle.row_reader.proofs.LoopLaws.{each_go_on, each_fail, each_done}
use Rattle.report_rows.specs.Names.{count_names}
use Rattle.report_row_reader.specs.Reading.{count_row_of}
use Rattle.report_read.specs.Reading.{counts_at}
use Rattle.report_read.proofs.outcome.counts.Goals as goal

pub loop-i-preserved : goal.loop-i-preserved
loop-i-preserved c =
    let i = c.loop-i.i in
    let here = rw (c.as_bytes-key.ensures.value, c.count_name.ensures.name) at c.in_ok-count.ensures.found in
    let e = each_go_on (λ name. row_at (count_row_of name)) (drop i count_names) (rows_of c.loop-i.rest.now) (take i c.loop-i.values)
    (counts_at (rows_of c.args.text.now)) c.loop-i.invariant.read _ (drop (i + 1) count_names) (drop_more count_names i [] (omega arith))
    c.in_ok-count.count (rows_of c.in_ok-count.behind.now) here in
    record {
      read = rw (take_more_set c.loop-i.values i c.in_ok-count.count (omega (arith, c.loop-i.invariant.len))) e;
      len = length-set c.loop-i.values i c.in_ok-count.count ∙ c.loop-i.invariant.len;
    }

pub returns-in_err-count : goal.returns-in_err-count
returns-in_err-count c =
    let i = c.loop-i.i in
    let total = counts_at (rows_of c.args.text.now) in
    let here = rw (c.as_bytes-key.ensures.value, c.count_name.ensures.name) at c.in_err-count.ensures.found in
    gives_fault _ _ c.from_residual.result total c.in_err-count.field-0.0
    (err_from_is_err_and c.from_residual.result c.from_residual.ensures.1)
    (each_fail (λ name. row_at (count_row_of name)) (drop i count_names) (rows_of c.loop-i.rest.now) (take i c.loop-i.values) total
    c.loop-i.invariant.read _ (drop (i + 1) count_names) (drop_more count_names i [] (omega arith)) c.in_err-count.field-0.0 here)

pub returns : goal.returns
returns c =
    each_done (λ name. row_at (count_row_of name)) (drop c.loop-i.i count_names) (rows_of c.loop-i.rest.now)
    (take c.loop-i.i c.loop-i.values) (counts_at (rows_of c.args.text.now)) c.loop-i.invariant.read
    (drop_all c.loop-i.i count_names (omega arith))
    ∙ ap (λ vs. Ok (vs, rows_of c.loop-i.rest.now)) (take_all c.loop-i.i c.loop-i.values (omega (arith, c.loop-i.invariant.len)))
