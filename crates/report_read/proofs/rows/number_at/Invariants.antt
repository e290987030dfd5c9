use Rattle.report_row_reader.specs.Reading.{number_row_of}
use Rattle.report_read.proofs.rows.number_at.Given as goal

abbrev pub ghost-first_row : goal.ghost-first_row
ghost-first_row a = number_row_of a.read.0.now a.read.1 a.read.2
