use Rattle.std.proofs.Common.{[], ◌∷◌, ◌+◌, ◌-◌, length, map, ap, ◌∙◌}
use Rattle.std.specs.List.{range_with_len}
use Rattle.std.proofs.lemmas.List.{map-append, length_push}
use Rattle.std.proofs.lemmas.Result.{err_from_is_err_and}
use Rattle.std_laws.proofs.RangeLaws.{range_with_len-more}
use Rattle.kmp_base.proofs.ReadingLaws.{gives_fault}
use Rattle.row_reader.specs.Rows.{rows_of}
use Rattle.row_reader.proofs.LoopLaws.{each_go_on, each_fail}
use Rattle.report_rows.specs.Ends.{end_value}
use Rattle.report_read.specs.Reading.{end_at, ends_at}
use Rattle.report_read.proofs.outcome.ends.Goals as goal

pub returns-in_err-ended-clause-read : goal.returns-in_err-ended-clause-read
returns-in_err-ended-clause-read c =
    let core = c.loop-core.core in
    let total = ends_at c.args.budget c.args.cores (rows_of c.args.text.now) in
    gives_fault _ _ c.from_residual.result total c.in_err-ended.field-0.0
    (err_from_is_err_and c.from_residual.result c.from_residual.ensures.1)
    (each_fail (end_at c.args.budget) (range_with_len core (c.args.cores - core)) (rows_of c.loop-core.rest.now)
    (map end_value c.loop-core.ends.items) total c.loop-core.invariant.read core (range_with_len (core + 1) (c.args.cores - (core + 1)))
    (range_with_len-more core c.args.cores c.loop-core-test.true) c.in_err-ended.field-0.0 c.in_err-ended.ensures)

pub loop-core-preserved : goal.loop-core-preserved
loop-core-preserved c =
    let core = c.loop-core.core in
    let e = each_go_on (end_at c.args.budget) (range_with_len core (c.args.cores - core)) (rows_of c.loop-core.rest.now)
    (map end_value c.loop-core.ends.items) (ends_at c.args.budget c.args.cores (rows_of c.args.text.now)) c.loop-core.invariant.read core
    (range_with_len (core + 1) (c.args.cores - (core + 1))) (range_with_len-more core c.args.cores c.loop-core-test.true)
    (end_value c.in_ok-ended.ended) (rows_of c.in_ok-ended.behind.now) c.in_ok-ended.ensures in
    let items = ap (map end_value) c.in_ok-push.ensures.items ∙ map-append end_value c.loop-core.ends.items (c.in_ok-ended.ended ∷ []) in
    record {
      read = rw items e;
      count = ap length c.in_ok-push.ensures.items ∙ length_push c.loop-core.ends.items c.in_ok-ended.ended
          ∙ ap (λ n. n + 1) c.loop-core.invariant.count;
    }
