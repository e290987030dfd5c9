use Rattle.asm_parse.proofs.MacrosLemmas.{macro_read}
use Rattle.asm_parse.proofs.laws.written_macros_are_read.Goals as goal

pub returns : goal.returns
returns c = record { law = macro_read }
