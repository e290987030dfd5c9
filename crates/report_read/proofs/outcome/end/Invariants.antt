use Rattle.report_row_reader.specs.Reading.{end_row_of}
use Rattle.report_read.proofs.outcome.end.Given as goal

abbrev pub ghost-first_row : goal.ghost-first_row
ghost-first_row a = end_row_of a.read.0 a.read.1
