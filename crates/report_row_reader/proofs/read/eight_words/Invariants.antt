use Rattle.std.proofs.Common.{◌≡◌, ◌-◌, length, take}
use Rattle.std.specs.Option.{option_copied}
use Rattle.row_reader.specs.Fields.{parts_left}
use Rattle.report_row_reader.specs.Reading.{words_of}
use Rattle.report_row_reader.proofs.LoopLemmas.{with_front}
use Rattle.report_row_reader.proofs.read.eight_words.Given as goal

abbrev pub invariant-loop-i : goal.invariant-loop-i
invariant-loop-i l = record {
  read : with_front (take l.i l.words) (words_of (8 - l.i) (parts_left (option_copied l.rest)))
      ≡ words_of 8 (parts_left (option_copied l.parts));
  len : length l.words ≡ 8;
}
