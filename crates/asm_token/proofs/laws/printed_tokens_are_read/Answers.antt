use Rattle.asm_token.proofs.PrintingLaws.{printed_read}
use Rattle.asm_token.proofs.laws.printed_tokens_are_read.Goals as goal

pub returns : goal.returns
returns c = record { law = printed_read }
