use Rattle.report_row_reader.specs.Reading.{machine_row_of, policy_row_of, turns_row_of}
use Rattle.report_read.proofs.header.header.Given as goal

abbrev pub ghost-first_row : goal.ghost-first_row
ghost-first_row a = machine_row_of

abbrev pub ghost-first_row-2 : goal.ghost-first_row-2
ghost-first_row-2 a = policy_row_of

abbrev pub ghost-first_row-3 : goal.ghost-first_row-3
ghost-first_row-3 a = turns_row_of
