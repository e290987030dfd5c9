use Rattle.asm_parse.proofs.PrintingLemmas.{labels_read}
use Rattle.asm_parse.proofs.laws.written_labels_are_read.Goals as goal

pub returns : goal.returns
returns c = record { law = labels_read }
