-- What is due in rows that are lists of numbers and of words.
use Rattle.std.specs.Prelude.{ℕ, ◌+◌, ◌/◌, Bool, false, ◌==◌, ◌&&◌, List, [], ◌∷◌, map, slice_index}
use Rattle.std.specs.List.{range_with_len}
use Rattle.access_log.specs.declared.field.Field.TheVariants as fields
use Rattle.access_log.specs.declared.field.Found.{Found}
use Rattle.access_log.specs.declared.field.Found.TheVariants as founds
use Rattle.report_rows.specs.declared.MemoryWord.{MemoryWord}
use Rattle.row_check.specs.Judgments.{Judgment, number, word}

-- numbers, one in a row from a line on
abbrev pub counts_judged : ℕ → List ℕ → List ℕ → List Judgment
counts_judged line kept due = map (λ i. number (line + i) fields.Count (slice_index kept i) (slice_index due i)) (range_with_len 0 13)

-- registers, eight in a row from a line on
abbrev pub registers_judged : ℕ → List ℕ → List ℕ → List Judgment
registers_judged line kept due =
    map (λ i. word (line + i / 8) fields.Register (slice_index kept i) (slice_index due i)) (range_with_len 0 32)

abbrev pub is_same_memory_word : MemoryWord → MemoryWord → Bool
is_same_memory_word a b = a.addr == b.addr && a.value == b.value

-- a memory word as it stands in a field
abbrev pub found_word : MemoryWord → Found
found_word word = founds.Word word.addr word.value

-- what is kept of a memory word and what is due
abbrev pub memory_word : ℕ → Found → Found → Bool → Judgment
memory_word line kept due same = record { line = line; field = fields.Word; kept = kept; due = due; same = same }

-- Memory words, one in a row from a line on: each is the next that is due, and none is missing.
abbrev pub words_judged : ℕ → List MemoryWord → List MemoryWord → List Judgment
words_judged line [] [] = []
words_judged line [] (next ∷ due) = memory_word line founds.Nothing (found_word next) false ∷ []
words_judged line (word ∷ kept) [] = memory_word line (found_word word) founds.Nothing false ∷ []
words_judged line (word ∷ kept) (next ∷ due) =
    memory_word line (found_word word) (found_word next) (is_same_memory_word word next) ∷ words_judged (line + 1) kept due
