use Rattle.std.proofs.Common.{◌≡◌, ◌+◌, ◌≤◌, length}
use Rattle.row_reader.specs.Rows.{rows_of}
use Rattle.row_reader.proofs.rows.row_count.Given as goal

abbrev pub invariant-rows : goal.invariant-rows
invariant-rows l = (l.count + length (rows_of l.rest) ≡ length (rows_of l.text)) × (l.count + length l.rest ≤ length l.text)

abbrev pub decreases-rows : goal.decreases-rows
decreases-rows l = length l.rest
