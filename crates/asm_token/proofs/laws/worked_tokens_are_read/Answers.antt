use Rattle.asm_token.proofs.WorkedLemmas.{worked}
use Rattle.asm_token.proofs.laws.worked_tokens_are_read.Goals as goal

pub returns : goal.returns
returns c = record { law = worked }
