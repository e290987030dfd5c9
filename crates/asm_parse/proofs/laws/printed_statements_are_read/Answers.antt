use Rattle.asm_parse.proofs.SourceLemmas.{text_read}
use Rattle.asm_parse.proofs.laws.printed_statements_are_read.Goals as goal

pub returns : goal.returns
returns c = record { law = text_read }
