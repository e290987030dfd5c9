-- Words that are read one after another, as a loop does. Those that were read before stand in front.
use Rattle.std.proofs.Common.{◌≡◌, ℕ, suc, List, [], ◌∷◌, ◌++◌, Option, Some, None, refl, ap, sym, ◌∙◌, append_assoc}
use Rattle.std.specs.Option.{option_map}
use Rattle.std.proofs.lemmas.List.{append-nil}
use Rattle.row_reader.specs.Rows.{Row}
use Rattle.row_reader.specs.Fields.{◌>>=◌, field_at, ended}
use Rattle.row_reader.specs.Numbers.{word_of}
use Rattle.report_row_reader.specs.Reading.{words_of}

abbrev pub with_front : List ℕ → Option (List ℕ) → Option (List ℕ)
with_front front read = option_map (λ others. front ++ others) read

pub none_in_front : (read : Option (List ℕ)) → with_front [] read ≡ read
none_in_front None = refl
none_in_front (Some words) = refl

one_more : (front : List ℕ) (word : ℕ) (read : Option (List ℕ))
    → with_front (front ++ word ∷ []) read ≡ with_front front (read >>= λ others. Some (word ∷ others))
one_more front word None = refl
one_more front word (Some others) = ap (λ words. Some words) (append_assoc front (word ∷ []) others)

pub word_read : (n : ℕ) (front : List ℕ) (row rest : Row) (word : ℕ) (total : Option (List ℕ)) → field_at word_of row ≡ Some (word, rest)
    → with_front front (words_of (suc n) row) ≡ total → with_front (front ++ word ∷ []) (words_of n rest) ≡ total
unfolding words_of
word_read n front row rest word total is so_far =
    one_more front word (words_of n rest)
    ∙ sym (ap (λ o. with_front front (o >>= λ first. words_of n first.1 >>= λ others. Some (first.0 ∷ others))) is) ∙ so_far

pub no_word : (n : ℕ) (front : List ℕ) (row : Row) (total : Option (List ℕ)) → field_at word_of row ≡ None
    → with_front front (words_of (suc n) row) ≡ total → total ≡ None
unfolding words_of
no_word n front row total is so_far =
    sym so_far ∙ ap (λ o. with_front front (o >>= λ first. words_of n first.1 >>= λ others. Some (first.0 ∷ others))) is

pub all_read : (words : List ℕ) (row : Row) → with_front words (words_of 0 row) ≡ ended words row
unfolding words_of
all_read words [] = ap (λ ws. Some ws) (append-nil words)
all_read words (part ∷ parts) = refl
