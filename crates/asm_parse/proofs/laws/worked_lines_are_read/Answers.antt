use Rattle.asm_parse.proofs.WorkedLemmas.{worked}
use Rattle.asm_parse.proofs.laws.worked_lines_are_read.Goals as goal

pub returns : goal.returns
returns c = record { law = worked }
