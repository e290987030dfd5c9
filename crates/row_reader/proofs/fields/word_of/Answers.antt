use Rattle.std.proofs.Common.{rules}
use Rattle.row_reader.proofs.FieldLaws.{field_match}
use Rattle.row_reader.proofs.NumberLaws.{word_field}
use Rattle.row_reader.proofs.fields.word_of.Goals as goal

pub returns : goal.returns
returns c = field_match _ _ _ word_field c.args.text.now c.hex8_of.result (search rules) c.hex8_of.ensures.value
