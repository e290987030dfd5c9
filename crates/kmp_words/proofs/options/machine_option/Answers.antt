use Rattle.std.proofs.Common.{refl}
use Rattle.kmp_words.proofs.WordsLemmas.{differs}
use Rattle.kmp_words.proofs.options.machine_option.Goals as goal

pub returns-in_default : goal.returns-in_default
returns-in_default c = record {
  value = rw (
    differs _ _ c.in_default.not-text,
    differs _ _ c.in_default.not-text-2,
    differs _ _ c.in_default.not-text-3,
    differs _ _ c.in_default.not-text-4,
    differs _ _ c.in_default.not-text-5,
    differs _ _ c.in_default.not-text-6,
  ) refl;
}
