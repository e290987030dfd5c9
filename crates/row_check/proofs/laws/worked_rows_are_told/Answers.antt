use Rattle.std.proofs.Common.{refl}
use Rattle.mips_isa.specs.Effects.{rs_of, rt_of, expected_by, written_by, kind_of}
use Rattle.row_check.proofs.laws.worked_rows_are_told.Goals as goal

pub returns : goal.returns
unfolding rs_of rt_of expected_by written_by kind_of
returns c = record {
  law = record {
    halted = refl;
    written = refl;
    spent = refl;
    late = refl;
    hasty = refl;
    fetched = refl;
    overwritten = refl;
    expected = refl;
    zero = refl;
    off_code = refl;
  };
}
