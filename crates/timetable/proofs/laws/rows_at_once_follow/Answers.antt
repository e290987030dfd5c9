use Rattle.timetable.proofs.FirstClockLaws.{past-first}
use Rattle.timetable.proofs.laws.rows_at_once_follow.Goals as goal

pub returns : goal.returns
returns c = record { law = past-first }
