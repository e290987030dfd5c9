use Rattle.std.proofs.Common.{◌≡◌, ◌-◌, length}
use Rattle.kmp_base.proofs.ReadingLaws.{with_front_and_rest}
use Rattle.image_file.specs.Reading.{words_in, may_stand}
use Rattle.image_file.proofs.field.words_in.Given as goal

abbrev pub invariant-loop : goal.invariant-loop
invariant-loop l = record {
  read : with_front_and_rest l.words.items (words_in (may_stand l.in_code) (l.count - l.counter) l.rest)
      ≡ words_in (may_stand l.in_code) l.count l.bytes;
  len : length l.words.items ≡ l.counter;
}
