use Rattle.std.proofs.Common.{refl}
use Rattle.mips_isa.specs.Effects.{rs_of, rt_of, expected_by, written_by, kind_of}
use Rattle.row_check.proofs.laws.worked_rows_are_bounded.Goals as goal

pub returns : goal.returns
unfolding rs_of rt_of expected_by written_by kind_of
returns c = record {
  law = record {
    late = refl;
    word_early = refl;
    answer_early = refl;
    unanswered = refl;
    unasked = refl;
    off_code = refl;
    off_code_late = refl;
    bounded = refl;
    word_late = refl;
    answer_late = refl;
    word_soon = refl;
    found = refl;
    found_bounded = refl;
    found_later = refl;
    found_before = refl;
    found_nothing = refl;
    found_at_once = refl;
    unlimited = refl;
  };
}
