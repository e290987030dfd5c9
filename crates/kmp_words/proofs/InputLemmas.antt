-- Inputs that are too long.
use Rattle.std.proofs.Common.{◌≡◌, ℕ, ◌+◌, List, length, true, refl, arith}
use Rattle.std.specs.Prelude.{Err, nat_lt}
use Rattle.std.proofs.lemmas.Bool.Decides.{nat_tests}
use Rattle.kmp_words.specs.Input.{limit_of, meaning_of}
use Rattle.kmp_words.specs.declared.input.Input.{Input}
use Rattle.kmp_words.specs.declared.input.Refusal.TheVariants.{TooLong}

-- one byte more than the limit
pub meaning_too_long : (input : Input) (bytes : List ℕ) → length bytes ≡ limit_of input + 1
    → meaning_of input bytes ≡ Err (TooLong (limit_of input))
unfolding meaning_of
meaning_too_long input bytes len = let long : nat_lt (limit_of input) (length bytes) ≡ true = grind (arith, nat_tests) in rw long refl
