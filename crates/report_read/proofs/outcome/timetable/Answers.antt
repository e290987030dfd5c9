use Rattle.std.proofs.Common.{◌≡◌, [], ◌∷◌, ◌++◌, Some, codes, decimal, length, ap, ◌∙◌, arith, zero-add}
use Rattle.std.specs.Option.{option_copied}
use Rattle.std.proofs.lemmas.List.{length_push}
use Rattle.row_reader.specs.Rows.{rows_of}
use Rattle.row_reader.specs.Fields.{parts_left}
use Rattle.row_reader.proofs.LoopLaws.{many_go_on}
use Rattle.report_row_reader.specs.Reading.{NumberedRow, numbered, after_row, is_timed, timed_row_of}
use Rattle.report_row_reader.proofs.TimedLaws.{timed_behind, is_timed_row, numbered_more}
use Rattle.report_read.specs.Reading.{timetable_at}
use Rattle.report_read.proofs.outcome.timetable.Goals as goal

pub rows-preserved : goal.rows-preserved
rows-preserved c =
    let core = c.args.core in
    let rows = c.rows.rows.items in
    let n = length rows in
    let row = c.in-Some-timed_row.row in
    let parts = parts_left (option_copied c.in-Some.parts) in
    let it : NumberedRow = record { n = n; row = row } in
    let read : timed_row_of c.args.most core n (codes "T" ∷ decimal core ∷ parts) ≡ Some it =
    timed_behind c.args.most core n parts ∙ (rw (c.len.ensures, c.rows.rows.ok.0) at c.in-Some-timed_row.ensures.read) in
    let all = c.in_ok-push.ensures.items in
    let longer = ap length all ∙ length_push rows row in
    let more = numbered_more 0 rows row ∙ ap (λ k. numbered 0 rows ++ numbered k (row ∷ [])) (zero-add n) in
    record {
      read = rw (all, more, length_push rows row)
          (many_go_on (is_timed core) (timed_row_of c.args.most core) after_row n (rows_of c.rows.rest.now) (numbered 0 rows)
          (timetable_at c.args.most core (rows_of c.args.text.now)) (codes "T" ∷ decimal core ∷ parts) (rows_of c.in-Some.behind.now) it
          c.in-Some.ensures.some (is_timed_row core parts) read c.rows.invariant.read);
      few = omega (arith, longer, c.len.ensures, c.rows.rows.ok.0, c.in-Some-timed_row.ensures.few);
    }
