use Rattle.row_check.proofs.RowLemmas.{lines-count}
use Rattle.row_check.proofs.laws.rows_take_a_line_each.Goals as goal

pub returns : goal.returns
returns c = record { law = lines-count }
