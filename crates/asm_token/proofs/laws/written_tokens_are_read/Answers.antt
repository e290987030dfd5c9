use Rattle.asm_token.proofs.PrintingLaws.{tokens_read}
use Rattle.asm_token.proofs.laws.written_tokens_are_read.Goals as goal

pub returns : goal.returns
returns c = record { law = tokens_read }
