use Rattle.std.proofs.Common.{refl}
use Rattle.row_reader.specs.Rows.{rows_of}
use Rattle.row_reader.proofs.LoopLaws.{cut_off}
use Rattle.report_row_reader.specs.Reading.{bytes_row_of}
use Rattle.report_read.specs.Reading.{image_row_of}
use Rattle.report_read.proofs.image.last_image_row.Goals as goal

pub returns-in_default-clause-found : goal.returns-in_default-clause-found
unfolding image_row_of bytes_row_of
returns-in_default-clause-found c =
    cut_off (image_row_of c.args.size c.args.front.items) (rows_of c.args.text.now) refl c.in_default.ensures.none
