use Rattle.std.proofs.Common.{◌≡◌, length}
use Rattle.std.specs.Prelude.{All}
use Rattle.asm_parse.specs.Statements.{words_in, more_words_in, IsProperBody}
use Rattle.kmp_base.proofs.ReadingLaws.{with_front}
use Rattle.asm_parse.proofs.bodies.words_in.Given as goal

abbrev pub invariant-words : goal.invariant-words
invariant-words l = record {
  read : with_front l.words.items (more_words_in l.rest) ≡ words_in l.tokens;
  proper : All IsProperBody l.words.items;
}

abbrev pub decreases-words : goal.decreases-words
decreases-words l = length l.rest
