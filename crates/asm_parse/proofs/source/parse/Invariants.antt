use Rattle.std.proofs.Common.{◌≡◌, ◌+◌, ◌≤◌, length}
use Rattle.asm_parse.specs.Lines.{lines_of, statements_of}
use Rattle.asm_parse.specs.Statements.{AreProper}
use Rattle.asm_parse.proofs.LinesLemmas.{read_behind}
use Rattle.asm_parse.proofs.source.parse.Given as goal

abbrev pub invariant-lines : goal.invariant-lines
invariant-lines l = record {
  read : read_behind l.statements.items l.number l.part (lines_of l.rest) ≡ statements_of l.text;
  room : l.number + length l.rest ≤ length l.text + 1;
  proper : AreProper l.statements.items;
}

abbrev pub decreases-lines : goal.decreases-lines
decreases-lines l = length l.rest
