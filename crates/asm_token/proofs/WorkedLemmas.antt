-- The lines that are worked by hand have the tokens that were worked: each by computing.
use Rattle.std.proofs.Common.{refl}
use Rattle.asm_token.specs.Tokens.{digits_at, unsigned_at, positive_at, negative_at, name_at, register_at, token_at, tokens_from}
use Rattle.asm_token.specs.Worked.{WorkedTokensAreRead}

pub worked : WorkedTokensAreRead
unfolding digits_at unsigned_at positive_at negative_at name_at register_at token_at tokens_from
worked = record {
  nothing = refl;
  names = refl;
  registers = refl;
  marks = refl;
  hexadecimal = refl;
  leading_zeros = refl;
  greatest = refl;
  too_great = refl;
  least = refl;
  too_small = refl;
  no_digit = refl;
  letter_behind = refl;
  minus_behind = refl;
  register_behind = refl;
  no_register = refl;
  no_token = refl;
}
