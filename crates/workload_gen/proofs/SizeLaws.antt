-- How long sources are.
use Rattle.std.proofs.Common.{◌≡◌, ℕ, zero, suc, ◌+◌, ◌*◌, ◌<◌, ◌≤◌, List, [], ◌∷◌, length, decimal}
use Rattle.std.proofs.Common.{refl, ap, arith, length-append}
use Rattle.std.specs.Prelude.{◌%◌, slice_index_or}
use Rattle.std.proofs.lemmas.Fmt.{length-decimal-le}
use Rattle.rand_core.specs.Steps.{first_words}
use Rattle.rand_core.specs.Pcg32Seed.{pcg32_seed}
use Rattle.rand_pcg.specs.Lcg.{Lcg}
use Rattle.rand_pcg.specs.Pcg.{pcg32, pcg32_of_seed}
use Rattle.workload_gen.specs.Source.{lines_text, offset_of, amount_of, lines_by_kind, block_lines}
use Rattle.workload_gen.specs.Source.{words_of, source_text}
use Rattle.workload_gen.proofs.SourceLemmas.{lines_left, lines_left-more}

short_number : (n : ℕ) → n < 1000 → length (decimal n) ≤ 3
short_number n small = length-decimal-le 3 n (omega arith) (omega arith) (omega arith)

kind_within : (kind number word : ℕ) → number < 1000 → length (lines_text (slice_index_or (lines_by_kind number word) kind [])) ≤ 63
kind_within zero number word below = grind (arith, length-append, short_number (offset_of word) (omega arith))
kind_within (suc zero) number word below =
    grind (arith, length-append, short_number (offset_of word) (omega arith), short_number (amount_of word) (omega arith))
kind_within (suc (suc zero)) number word below = grind (arith, length-append, short_number (offset_of word) (omega arith))
kind_within (suc (suc (suc zero))) number word below = grind (arith, length-append, short_number number below)
kind_within (suc (suc (suc (suc kind)))) number word below = omega arith

-- what is left has 63 bytes for each word at most, and the lines behind them
left_within : (number : ℕ) (words : List ℕ) → number + length words ≤ 1000
    → length (lines_text (lines_left number words)) ≤ 63 * length words + 36
left_within number [] fits = omega arith
left_within number (word ∷ words) fits =
    let more = ap length (lines_left-more number word words) in
    omega (
      arith,
      more,
      length-append (lines_text (block_lines number word)) (lines_text (lines_left (number + 1) words)),
      kind_within (word % 4) number word (omega arith),
      left_within (number + 1) words (omega arith),
    )

length-first_words : (n : ℕ) (g : Lcg) → length (first_words pcg32 n g) ≡ n
unfolding first_words
length-first_words zero g = refl
length-first_words (suc n) g = ap suc (length-first_words n (pcg32 g).1)

-- a block is drawn by each word, of which there are as many as are wanted
pub length-words_of : (seed size : ℕ) → length (words_of seed size) ≡ size
length-words_of seed size = length-first_words size (pcg32_of_seed (pcg32_seed 16 (seed + 2)))

pub source_within : (seed size : ℕ) → size ≤ 1000 → length (source_text seed size) ≤ 63 * size + 60
source_within seed size fits =
    let count = length-words_of seed size in
    omega (arith, count, left_within 0 (words_of seed size) (omega (arith, count)))
