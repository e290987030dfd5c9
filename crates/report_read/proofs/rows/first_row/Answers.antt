use Rattle.std.proofs.Common.{refl}
use Rattle.row_reader.specs.Rows.{rows_of}
use Rattle.row_reader.specs.Fields.{parts_of}
use Rattle.report_read.proofs.RowLemmas.{row_found, row_stuck}
use Rattle.report_read.proofs.rows.first_row.Goals as goal

pub returns-in-Some-read-clause-found : goal.returns-in-Some-read-clause-found
returns-in-Some-read-clause-found g c =
    row_found g.one (rows_of c.args.text.now) (parts_of c.in-Some.row.now) (rows_of c.in-Some.rest.now) c.in-Some-read.value
    c.in-Some.ensures.some
    (c.requires.1.1.1.0 _ _ (_, c.in-Some-read.ensures, refl))

pub returns-in-Some-read-clause-returned : goal.returns-in-Some-read-clause-returned
returns-in-Some-read-clause-returned g c = (_, (_, c.in-Some-read.ensures, refl))

pub returns-in-None-read-clause-found : goal.returns-in-None-read-clause-found
returns-in-None-read-clause-found g c =
    row_stuck g.one (rows_of c.args.text.now) (parts_of c.in-Some.row.now) (rows_of c.in-Some.rest.now) c.in-Some.ensures.some
    (c.requires.1.1.1.0 _ _ (_, c.in-None-read.ensures, refl))
