use Rattle.std.proofs.Common.{sym}
use Rattle.row_reader.proofs.CutLaws.{part_is, last_part_is}
use Rattle.row_reader.proofs.rows.first_part.Goals as goal

pub returns-in-Some : goal.returns-in-Some
returns-in-Some c = part_is c.args.row.now c.in-Some.end (sym c.in-Some.ensures)

pub returns-in-None : goal.returns-in-None
returns-in-None c = last_part_is c.args.row.now (sym c.in-None.ensures)
