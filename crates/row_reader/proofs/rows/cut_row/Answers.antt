use Rattle.std.proofs.Common.{sym}
use Rattle.row_reader.proofs.CutLaws.{row_is, text_is_whole, cut_none}
use Rattle.row_reader.proofs.rows.cut_row.Goals as goal

pub returns-in-Some-clause-some : goal.returns-in-Some-clause-some
returns-in-Some-clause-some c = row_is c.args.text.now c.in-Some.end (sym c.in-Some.ensures)

pub returns-in-Some-clause-whole : goal.returns-in-Some-clause-whole
returns-in-Some-clause-whole c = text_is_whole c.args.text.now c.in-Some.end (sym c.in-Some.ensures)

pub returns-in-None-clause-none : goal.returns-in-None-clause-none
returns-in-None-clause-none c = (cut_none c.args.text.now (sym c.in-None.ensures)).0

pub returns-in-None-clause-left : goal.returns-in-None-clause-left
returns-in-None-clause-left c = (cut_none c.args.text.now (sym c.in-None.ensures)).1
