use Rattle.std.proofs.Common.{refl}
use Rattle.std.specs.Fmt.{digits}
use Rattle.rand_core.specs.Steps.{first_words, u32_at, word_bytes}
use Rattle.rand_core.specs.Pcg32Seed.{pcg32_seed}
use Rattle.workload_gen.proofs.laws.worked_sources.Goals as goal

pub returns : goal.returns
unfolding first_words u32_at word_bytes pcg32_seed digits
returns c = record {
  law = record {
    no_block = refl;
    words = refl;
    words_of_greatest_seed = refl;
    each_kind = refl;
    greatest_numbers = refl;
    least_numbers = refl;
    greatest_word = refl;
    greatest_load = refl;
    label_of_two_digits = refl;
  };
}
