-- Sources block by block.
use Rattle.std.proofs.Common.{◌≡◌, ℕ, suc, ◌+◌, ◌-◌, ◌<◌, ◌≤◌, List, [], ◌∷◌, ◌++◌, codes}
use Rattle.std.proofs.Common.{refl, sym, ap, ◌∙◌, arith, append_assoc}
use Rattle.std.proofs.lemmas.List.{flat_map_more}
use Rattle.std.proofs.lemmas.List.Concat.{flat_map-append}
use Rattle.rand_core.specs.Steps.{first_words}
use Rattle.rand_pcg.specs.Lcg.{Lcg}
use Rattle.rand_pcg.specs.Pcg.{pcg32}
use Rattle.workload_gen.specs.Source.{lines_text, block_lines, blocks_from, tail_lines}

-- a line that is appended behind others
pub line_behind : (text old new : List ℕ) (lines : List (List ℕ)) (line piece : List ℕ) → old ≡ text ++ lines_text lines → piece ≡ line
    → new ≡ old ++ (piece ++ codes "\n") → new ≡ text ++ lines_text (lines ++ line ∷ [])
line_behind text old new lines line piece before same now =
    now ∙ ap (λ (p : List ℕ × List ℕ). p.0 ++ (p.1 ++ codes "\n")) (λ i. (before i, same i))
    ∙ flat_map_more (λ (l : List ℕ). l ++ codes "\n") text lines line

-- the lines of the blocks from a number on, and what stands behind them
abbrev pub lines_left : ℕ → List ℕ → List (List ℕ)
lines_left number words = blocks_from number words ++ tail_lines

lines_text-append : (a b : List (List ℕ)) → lines_text (a ++ b) ≡ lines_text a ++ lines_text b
lines_text-append a b = flat_map-append (λ (line : List ℕ). line ++ codes "\n") a b

pub lines_left-more : (number word : ℕ) (words : List ℕ)
    → lines_text (lines_left number (word ∷ words)) ≡ lines_text (block_lines number word) ++ lines_text (lines_left (number + 1) words)
lines_left-more number word words =
    let block = block_lines number word in
    let later = blocks_from (number + 1) words in
    ap lines_text (append_assoc block later tail_lines) ∙ lines_text-append block (later ++ tail_lines)

-- a generator's next word is the first of the words that it has left
word_next : (number size word : ℕ) (old new : Lcg) → number < size → (word, new) ≡ pcg32 old
    → first_words pcg32 (size - number) old ≡ word ∷ first_words pcg32 (size - (number + 1)) new
unfolding first_words
word_next number size word old new below step =
    let left : size - number ≡ suc (size - (number + 1)) = omega arith in
    rw left (ap (λ (p : ℕ × Lcg). p.0 ∷ first_words pcg32 (size - (number + 1)) p.1) (sym step))

-- a block that is appended is one less that is left
pub block_next : (number size word : ℕ) (old new : Lcg) (text longer whole : List ℕ) → number < size → (word, new) ≡ pcg32 old
    → longer ≡ text ++ lines_text (block_lines number word)
    → text ++ lines_text (lines_left number (first_words pcg32 (size - number) old)) ≡ whole
    → longer ++ lines_text (lines_left (number + 1) (first_words pcg32 (size - (number + 1)) new)) ≡ whole
block_next number size word old new text longer whole below step appended before =
    let words = first_words pcg32 (size - (number + 1)) new in
    let block = lines_text (block_lines number word) in
    let later = lines_text (lines_left (number + 1) words) in
    let drawn = ap (λ (ws : List ℕ). lines_text (lines_left number ws)) (word_next number size word old new below step) in
    ap (λ (front : List ℕ). front ++ later) appended ∙ append_assoc text block later
    ∙ ap (λ (more : List ℕ). text ++ more) (sym (drawn ∙ lines_left-more number word words)) ∙ before

-- behind the last block no word is left
pub all_moved : (number size : ℕ) (g : Lcg) → size ≤ number → lines_left number (first_words pcg32 (size - number) g) ≡ tail_lines
unfolding first_words
all_moved number size g past =
    let none : size - number ≡ 0 = omega arith in
    rw none refl
