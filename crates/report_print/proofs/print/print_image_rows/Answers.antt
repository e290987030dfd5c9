use Rattle.std.proofs.Common.{◌∙◌, drop, map, sym, ap, arith, zero-add}
use Rattle.std.specs.List.{range_with_len}
use Rattle.std.proofs.lemmas.List.{take_all}
use Rattle.std.proofs.lemmas.List.FromFn.{length-range_with_len, get_or-range_with_len}
use Rattle.std.proofs.lemmas.Result.{err_from_is_err_and}
use Rattle.std_laws.proofs.ListLaws.{drop-drop_multiple}
use Rattle.kmp_base.specs.Rows.{row_text, text_of}
use Rattle.kmp_base.proofs.StreamLaws.{writes_as}
use Rattle.image_file.specs.Value.{image_numbers, image_bytes}
use Rattle.report_rows.specs.Rows.{bytes_row_at}
use Rattle.report_print.proofs.ImageLemmas.{image_row_at}
use Rattle.report_print.proofs.TextLemmas.{rows_next, rows_cut}
use Rattle.report_print.proofs.print.print_image_rows.Goals as goal

pub returns-in_err-put : goal.returns-in_err-put
returns-in_err-put g c =
    let p = err_from_is_err_and c.from_residual.result c.from_residual.ensures.1 in
    let k = c.loop.counter in
    let bytes = image_bytes c.args.image.now in
    let row = c.bytes.ensures.bytes ∙ image_row_at c.args.image.now k _ _ c.loop.invariant.left c.image.ensures.row
    ∙ ap (λ n. row_text (bytes_row_at bytes n)) (sym (get_or-range_with_len 0 c.args.rows k 0 (omega arith) ∙ zero-add k)) in
    rw p.1 (rows_cut (bytes_row_at bytes) (range_with_len 0 c.args.rows) k 0 (omega (arith, length-range_with_len 0 c.args.rows)) row
    c.loop.invariant.writes c.in_err-put.ensures.writes)

pub loop-preserved : goal.loop-preserved
loop-preserved g c =
    let k = c.loop.counter in
    let bytes = image_bytes c.args.image.now in
    let row = c.bytes.ensures.bytes ∙ image_row_at c.args.image.now k _ _ c.loop.invariant.left c.image.ensures.row
    ∙ ap (λ n. row_text (bytes_row_at bytes n)) (sym (get_or-range_with_len 0 c.args.rows k 0 (omega arith) ∙ zero-add k)) in
    record {
      left = c.image.ensures.left ∙ ap (drop 8) c.loop.invariant.left ∙ drop-drop_multiple 8 k (image_numbers c.args.image.now);
      writes = rows_next (bytes_row_at bytes) (range_with_len 0 c.args.rows) k 0 (omega (arith, length-range_with_len 0 c.args.rows)) row
          c.loop.invariant.writes c.in_ok-put.ensures.writes;
    }

pub returns : goal.returns
returns g c =
    let bytes = image_bytes c.args.image.now in
    writes_as (ap (λ ks. text_of (map (bytes_row_at bytes) ks))
    (take_all c.loop.counter (range_with_len 0 c.args.rows) (omega (arith, length-range_with_len 0 c.args.rows))))
    c.loop.invariant.writes
