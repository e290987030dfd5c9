-- Where all judgments of a list of numbers or of words agree, what is kept is what is due.
use Rattle.std.proofs.Common.{◌≡◌, ℕ, zero, suc, ◌+◌, ◌/◌, ◌<◌, true, List, [], ◌∷◌, length, refl, sym, ap, ◌∙◌, arith}
use Rattle.std.specs.Prelude.{◌==◌, map, slice_index}
use Rattle.std.specs.List.{range_with_len}
use Rattle.std.proofs.lemmas.Bool.{eqb-true, eq-eqb, and_parts, and_from}
use Rattle.std.proofs.lemmas.Grind.{same_number_lists}
use Rattle.access_log.specs.declared.field.Field.TheVariants as fields
use Rattle.report_rows.specs.declared.MemoryWord.{MemoryWord}
use Rattle.row_check.specs.Judgments.{Judgment, number, word}
use Rattle.row_check.proofs.JudgmentLaws.{Agree}
use Rattle.replayer.specs.Lists.{counts_judged, registers_judged, is_same_memory_word, words_judged}

-- ---- numbers, each with its index

agree_at : (f : ℕ → Judgment) (a n i : ℕ) → Agree (map f (range_with_len a n)) → i < n → (f (a + i)).same ≡ true
agree_at f a zero i all below = absurd (omega arith)
agree_at f a (suc n) zero all below =
    let e : a + 0 ≡ a = omega arith in
    rw e all.0
agree_at f a (suc n) (suc i) all below =
    let e : a + suc i ≡ a + 1 + i = omega arith in
    rw e (agree_at f (a + 1) n i all.1 (omega arith))

agree_each : (f : ℕ → Judgment) (a n : ℕ) → ((i : ℕ) → (f i).same ≡ true) → Agree (map f (range_with_len a n))
agree_each f a zero each = tt
agree_each f a (suc n) each = (each a, agree_each f (a + 1) n each)

-- lists of so many numbers, judged one by one
abbrev Judges : List ℕ → List ℕ → (ℕ → Judgment) → Type 0
Judges kept due f = (i : ℕ) → (f i).same ≡ (slice_index kept i == slice_index due i)

numbers_same : (n : ℕ) (kept due : List ℕ) (f : ℕ → Judgment) → Judges kept due f → length kept ≡ n → length due ≡ n
    → Agree (map f (range_with_len 0 n)) → kept ≡ due
numbers_same n kept due f judges kept_has due_has all =
    same_number_lists kept due (kept_has ∙ sym due_has) (λ i below. eqb-true _ _ (sym (judges i) ∙ here i (omega arith)))
  where
    here : (i : ℕ) → i < n → (f i).same ≡ true
    here i below = (let e : 0 + i ≡ i = omega arith in rw e at (agree_at f 0 n i all below))

numbers_agree : (n : ℕ) (kept due : List ℕ) (f : ℕ → Judgment) → Judges kept due f → kept ≡ due → Agree (map f (range_with_len 0 n))
numbers_agree n kept due f judges same =
    agree_each f 0 n (λ i. judges i ∙ eq-eqb (slice_index kept i) (slice_index due i) (ap (λ ns. slice_index ns i) same))

abbrev count_at : ℕ → List ℕ → List ℕ → ℕ → Judgment
count_at line kept due i = number (line + i) fields.Count (slice_index kept i) (slice_index due i)

abbrev register_at : ℕ → List ℕ → List ℕ → ℕ → Judgment
register_at line kept due i = word (line + i / 8) fields.Register (slice_index kept i) (slice_index due i)

pub counts_same : (line : ℕ) (kept due : List ℕ) → length kept ≡ 13 → length due ≡ 13 → Agree (counts_judged line kept due) → kept ≡ due
counts_same line kept due kept_has due_has all = numbers_same 13 kept due (count_at line kept due) (λ i. refl) kept_has due_has all

pub counts_agree : (line : ℕ) (kept due : List ℕ) → kept ≡ due → Agree (counts_judged line kept due)
counts_agree line kept due same = numbers_agree 13 kept due (count_at line kept due) (λ i. refl) same

pub registers_same : (line : ℕ) (kept due : List ℕ) → length kept ≡ 32 → length due ≡ 32 → Agree (registers_judged line kept due)
    → kept ≡ due
registers_same line kept due kept_has due_has all = numbers_same 32 kept due (register_at line kept due) (λ i. refl) kept_has due_has all

pub registers_agree : (line : ℕ) (kept due : List ℕ) → kept ≡ due → Agree (registers_judged line kept due)
registers_agree line kept due same = numbers_agree 32 kept due (register_at line kept due) (λ i. refl) same

-- ---- memory words

word_is : (a b : MemoryWord) → a.addr ≡ b.addr → a.value ≡ b.value → a ≡ b
word_is a b addr value =
    ap (λ (n : ℕ). make n a.value) addr ∙ ap (make b.addr) value
  where
    make : ℕ → ℕ → MemoryWord
    make n m = record { addr = n; value = m }

same_memory_word : (a b : MemoryWord) → is_same_memory_word a b ≡ true → a ≡ b
same_memory_word a b same =
    let both = and_parts _ _ same in
    word_is a b (eqb-true _ _ both.0) (eqb-true _ _ both.1)

memory_word_same : (a : MemoryWord) → is_same_memory_word a a ≡ true
memory_word_same a = and_from _ _ (eq-eqb a.addr a.addr refl) (eq-eqb a.value a.value refl)

pub words_same : (line : ℕ) (kept due : List MemoryWord) → Agree (words_judged line kept due) → kept ≡ due
words_same line [] [] all = refl
words_same line [] (next ∷ due) all = cc
words_same line (word ∷ kept) [] all = cc
words_same line (word ∷ kept) (next ∷ due) all =
    ap (λ w. w ∷ kept) (same_memory_word word next all.0) ∙ ap (λ (ws : List MemoryWord). next ∷ ws) (words_same (line + 1) kept due all.1)

pub words_agree : (line : ℕ) (words : List MemoryWord) → Agree (words_judged line words words)
words_agree line [] = tt
words_agree line (word ∷ words) = (memory_word_same word, words_agree (line + 1) words)
