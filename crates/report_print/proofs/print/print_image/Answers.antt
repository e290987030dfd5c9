use Rattle.std.proofs.Common.{◌≡◌, ◌+◌, ◌/◌, ◌∙◌, length, map, ap, arith, codes}
use Rattle.std.specs.List.{range_with_len}
use Rattle.std.proofs.lemmas.Result.{err_from_is_err_and}
use Rattle.kmp_base.specs.Rows.{row_text, text_of}
use Rattle.kmp_base.proofs.StreamLaws.{writes_then, writes_stop, writes_as}
use Rattle.image_file.specs.Value.{image_bytes}
use Rattle.report_rows.specs.Rows.{number_row, bytes_row_at}
use Rattle.report_text.specs.Text.{image_rows}
use Rattle.report_print.proofs.print.print_image.Goals as goal

pub returns-in_err-put : goal.returns-in_err-put
unfolding image_rows
returns-in_err-put g c =
    let p = err_from_is_err_and c.from_residual.result c.from_residual.ensures.1 in
    let size = c.bytes.ensures.bytes ∙ c.number.ensures.row
    ∙ ap (λ n. row_text (number_row (codes "image") n)) (c.from.ensures ∙ c.image_size-size.ensures.size) in
    rw p.1 (writes_stop _ (writes_as size c.in_err-put.ensures.writes))

pub returns : goal.returns
unfolding image_rows
returns g c =
    let bytes = image_bytes c.args.image.now in
    let size = c.bytes.ensures.bytes ∙ c.number.ensures.row
    ∙ ap (λ n. row_text (number_row (codes "image") n)) (c.from.ensures ∙ c.image_size-size.ensures.size) in
    let count : c.div_ceil.result ≡ (length bytes + 31) / 32 = omega (arith, c.div_ceil.ensures, c.image_size-size.ensures.size) in
    let rows = ap (λ n. text_of (map (bytes_row_at bytes) (range_with_len 0 n))) count in
    writes_then (writes_as size c.in_ok-put.ensures.writes) (writes_as rows c.print_image_rows.ensures)
