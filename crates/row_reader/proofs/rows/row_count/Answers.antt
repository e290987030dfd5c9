use Rattle.std.proofs.Common.{◌≤◌, length, arith}
use Rattle.row_reader.proofs.CutLaws.{no_rows}
use Rattle.row_reader.proofs.rows.row_count.Goals as goal

pub returns-clause-rows : goal.returns-clause-rows
returns-clause-rows c =
    let none : length c.rows.rest.now ≤ 0 = omega arith in
    let e = no_rows c.rows.rest.now none in
    omega arith
