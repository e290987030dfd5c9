use Rattle.std.proofs.Common.{[], ◌∷◌}
use Rattle.report_row_reader.specs.Reading.{fixed_of}
use Rattle.report_read.proofs.rows.fixed_at.Given as goal

abbrev pub ghost-first_row : goal.ghost-first_row
ghost-first_row a = fixed_of (a.read.0.now ∷ a.read.1.now ∷ [])
