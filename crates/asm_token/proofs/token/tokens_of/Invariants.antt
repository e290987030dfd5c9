use Rattle.std.proofs.Common.{◌≡◌, length}
use Rattle.asm_token.specs.Tokens.{tokens_from, without_comment}
use Rattle.kmp_base.proofs.ReadingLaws.{with_front}
use Rattle.asm_token.proofs.token.tokens_of.Given as goal

abbrev pub invariant-tokens : goal.invariant-tokens
invariant-tokens l = with_front l.tokens.items (tokens_from 0 l.rest) ≡ tokens_from 0 (without_comment l.line)

abbrev pub decreases-tokens : goal.decreases-tokens
decreases-tokens l = length l.rest
