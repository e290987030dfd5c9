use Rattle.std.proofs.Common.{◌≡◌, ◌+◌, ◌-◌, suc, take, sym, ap, ◌∙◌, arith, length-set}
use Rattle.std.proofs.lemmas.List.{take_all, take_more_set}
use Rattle.std.specs.Option.{option_copied}
use Rattle.row_reader.specs.Fields.{parts_left, ended}
use Rattle.report_row_reader.proofs.LoopLemmas.{word_read, no_word, all_read}
use Rattle.report_row_reader.proofs.read.eight_words.Goals as goal

pub loop-i-preserved : goal.loop-i-preserved
loop-i-preserved c =
    let i = c.loop-i.i in
    let left : 8 - i ≡ suc (8 - (i + 1)) = omega arith in
    record {
      read = rw (take_more_set c.loop-i.words i c.in_ok-value.value (omega (arith, c.loop-i.invariant.len)))
          (word_read (8 - (i + 1)) (take i c.loop-i.words) (parts_left (option_copied c.loop-i.rest)) _ c.in_ok-value.value _
          c.in_ok-value.ensures (rw left at c.loop-i.invariant.read));
      len = length-set c.loop-i.words i c.in_ok-value.value ∙ c.loop-i.invariant.len;
    }

pub returns-in_err-value : goal.returns-in_err-value
returns-in_err-value c =
    let i = c.loop-i.i in
    let left : 8 - i ≡ suc (8 - (i + 1)) = omega arith in
    c.from_residual.ensures
    ∙ sym (no_word (8 - (i + 1)) (take i c.loop-i.words) (parts_left (option_copied c.loop-i.rest)) _ c.in_err-value.ensures
    (rw left at c.loop-i.invariant.read))

pub returns : goal.returns
returns c =
    let rest = parts_left (option_copied c.loop-i.rest) in
    let none : 8 - c.loop-i.i ≡ 0 = omega arith in
    c.ended.ensures.found
    ∙ sym (ap (λ words. ended words rest) (take_all c.loop-i.i c.loop-i.words (omega (arith, c.loop-i.invariant.len))))
    ∙ sym (all_read (take c.loop-i.i c.loop-i.words) rest) ∙ (rw none at c.loop-i.invariant.read)
