-- The lines that are worked by hand are read as they were worked: each by computing.
use Rattle.std.proofs.Common.{refl}
use Rattle.asm_token.specs.Tokens.{digits_at, unsigned_at, positive_at, negative_at, name_at, register_at, token_at, tokens_from}
use Rattle.asm_parse.specs.Forms.{form_of}
use Rattle.asm_parse.specs.Lines.{form_in, named_in, line_of, lines_of, statements_from}
use Rattle.asm_parse.specs.Operands.{address_in, link_in, operand_in, more_operands_in, operands_in}
use Rattle.asm_parse.specs.Registers.{register_of}
use Rattle.asm_parse.specs.Statements.{body_of, more_words_in, words_in, statement_in}
use Rattle.asm_parse.specs.Worked.{WorkedLinesAreRead}

pub worked : WorkedLinesAreRead
unfolding digits_at unsigned_at positive_at negative_at name_at register_at token_at tokens_from form_of form_in named_in line_of lines_of
    statements_from address_in link_in operand_in more_operands_in operands_in register_of body_of more_words_in words_in statement_in
worked = record {
  labels_in_front = refl;
  blanks_anywhere = refl;
  no_blanks = refl;
  comment_alone = refl;
  comment_at_once = refl;
  load = refl;
  words = refl;
  segment = refl;
  jump_address = refl;
  bad_byte = refl;
  no_statement = refl;
  no_register = refl;
  one_too_few = refl;
  too_great = refl;
  another_part = refl;
  lines = refl;
  first_fault = refl;
}
