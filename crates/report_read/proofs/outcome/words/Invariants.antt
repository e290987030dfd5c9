use Rattle.std.proofs.Common.{◌≡◌, length}
use Rattle.kmp_base.proofs.ReadingLaws.{with_front_and_rest}
use Rattle.row_reader.specs.Rows.{rows_of}
use Rattle.report_read.specs.Reading.{words_at}
use Rattle.report_read.proofs.outcome.words.Given as goal

abbrev pub invariant-rows : goal.invariant-rows
invariant-rows l = with_front_and_rest l.words.items (words_at l.bytes l.from (rows_of l.rest)) ≡ words_at l.bytes l.low (rows_of l.text)

abbrev pub decreases-rows : goal.decreases-rows
decreases-rows l = length l.rest
