use Rattle.std.proofs.Common.{◌∷◌, codes, sym, arith}
use Rattle.std.specs.Option.{option_copied}
use Rattle.row_reader.specs.Rows.{Row, rows_of}
use Rattle.row_reader.specs.Fields.{parts_left}
use Rattle.report_row_reader.proofs.RowLaws.{entry_law}
use Rattle.report_read.proofs.ItemLemmas.{entry_first, entry_stuck, bus_first, bus_stuck}
use Rattle.report_read.proofs.history.next_item.Goals as goal

pub returns-in-Some-entry_row-clause-found : goal.returns-in-Some-entry_row-clause-found
returns-in-Some-entry_row-clause-found c =
    entry_first c.args.machine c.args.cores c.args.bytes (rows_of c.args.text.now) (rows_of c.in-Some.behind.now)
    (parts_left (option_copied c.in-Some.parts)) c.in-Some.ensures.some c.in-Some-entry_row.entry (sym c.in-Some-entry_row.ensures.read)

pub returns-in-Some-entry_row-clause-core : goal.returns-in-Some-entry_row-clause-core
returns-in-Some-entry_row-clause-core c =
    let law = entry_law c.args.cores c.args.bytes (omega (arith, c.requires.some_cores)) c.requires.few_cores (omega (arith, c.ranges.bytes.fits)) in
    let row : Row = codes "A" ∷ parts_left (option_copied c.in-Some.parts) in
    omega (arith, (law.found row c.in-Some-entry_row.entry (sym c.in-Some-entry_row.ensures.read)).0.core, c.requires.few_cores)

pub returns-in-None-clause-found : goal.returns-in-None-clause-found
returns-in-None-clause-found c =
    entry_stuck c.args.machine c.args.cores c.args.bytes (rows_of c.args.text.now) (rows_of c.in-Some.behind.now)
    (parts_left (option_copied c.in-Some.parts)) c.in-Some.ensures.some (sym c.in-None.ensures.read)

pub returns-in-Some-bus_row-clause-found : goal.returns-in-Some-bus_row-clause-found
returns-in-Some-bus_row-clause-found c =
    bus_first c.args.machine c.args.cores c.args.bytes (rows_of c.args.text.now) (rows_of c.in-Some-named_row.behind.now)
    (parts_left (option_copied c.in-Some-named_row.parts)) c.in-Some-named_row.ensures.some c.in-Some-bus_row.bus
    (sym c.in-Some-bus_row.ensures.read)

pub returns-in-None-bus_row-clause-found : goal.returns-in-None-bus_row-clause-found
returns-in-None-bus_row-clause-found c =
    bus_stuck c.args.machine c.args.cores c.args.bytes (rows_of c.args.text.now) (rows_of c.in-Some-named_row.behind.now)
    (parts_left (option_copied c.in-Some-named_row.parts)) c.in-Some-named_row.ensures.some (sym c.in-None-bus_row.ensures.read)
