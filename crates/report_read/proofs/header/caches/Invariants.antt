use Rattle.report_row_reader.specs.Reading.{sets_row_of}
use Rattle.report_read.proofs.header.caches.Given as goal

abbrev pub ghost-first_row : goal.ghost-first_row
ghost-first_row a = sets_row_of
