use Rattle.std.proofs.Common.{[], ◌∷◌, codes}
use Rattle.report_row_reader.specs.Reading.{fixed_of}
use Rattle.report_read.proofs.outcome.outcome.Given as goal

abbrev pub ghost-first_row : goal.ghost-first_row
ghost-first_row a = fixed_of (codes "end" ∷ [])
