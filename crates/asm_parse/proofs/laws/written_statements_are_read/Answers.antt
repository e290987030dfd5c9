use Rattle.asm_parse.proofs.PrintingLemmas.{statement_read}
use Rattle.asm_parse.proofs.laws.written_statements_are_read.Goals as goal

pub returns : goal.returns
returns c = record { law = statement_read }
