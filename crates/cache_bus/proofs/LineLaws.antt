-- What becomes of one cache.
use Rattle.std.proofs.Common.{◌≡◌, ◌≢◌, ℕ, ◌+◌, ◌*◌, ◌/◌, ◌%◌, ◌<◌, inl, inr, false, List, [], ◌∷◌, ◌++◌, length, refl, ap, sym, ◌∙◌, arith}
use Rattle.std.specs.Prelude.{Option, None, slice_index, not, filter, ◌==◌, if◌then◌else◌}
use Rattle.std.proofs.lemmas.Bool.{cases_eq, both_ways, eq-eqb, ne_eqb}
use Rattle.access_log.specs.declared.Letter.{Letter}
use Rattle.access_log.specs.declared.Letter.TheVariants.{I}
use Rattle.moesi_master.specs.Moesi.{is_held}
use Rattle.letters.specs.Fold.{is_that}
use Rattle.cache_ram.specs.declared.line.Line.{Line}
use Rattle.cache_ram.specs.Lines.{letter_in, word_in, filled_in}
use Rattle.cache_bus.specs.Caches.{Installed}

-- No line makes room.
pub keep_all : (lines : List ℕ) → filter (λ l. not (is_that None l)) lines ≡ lines
keep_all [] = refl
keep_all (line ∷ lines) = ap (λ rest. line ∷ rest) (keep_all lines)

-- A line is filled where there was room.
pub filled-none : (line : ℕ) (victim : Option ℕ) (letter : Letter) (words : List ℕ) (old new : List (Option Line))
    → victim ≡ None → is_held (letter_in old line) ≡ false → letter_in new line ≡ letter
    → ((l : ℕ) → l ≢ line → letter_in new l ≡ letter_in old l)
    → ((h : ℕ) → h < 2 → word_in new (2 * line + h) ≡ slice_index words h)
    → ((i : ℕ) → i / 2 ≢ line → word_in new i ≡ word_in old i)
    → filled_in new (line % length old) ≡ filled_in old (line % length old) ++ line ∷ []
    → ((set : ℕ) → set ≢ line % length old → filled_in new set ≡ filled_in old set) → length new ≡ length old
    → Installed line victim letter (slice_index words) old new
filled-none line victim letter words old new none miss same other words_here words_else filled filled_else sets = record {
  letters = λ l. elim (cases_eq l line) as
      (λ _. letter_in new l ≡ (if l == line then letter else (if is_that victim l then I else letter_in old l))) [
        | inl e ↦ ap (λ z. letter_in new z) e ∙ (same ∙ rw (eq-eqb l line e) refl)
        | inr ne ↦ other l ne ∙ rw (ne_eqb l line ne, none) refl
      ];
  filled_words = λ gone. words_here;
  stays = λ held h lt. absurd (both_ways (is_held (letter_in old line)) miss held);
  else_words = λ i ne held. words_else i ne;
  filled = filled ∙ rw (miss, none) (ap (λ lines. lines ++ line ∷ []) (sym (keep_all (filled_in old (line % length old)))));
  filled_else = filled_else;
  sets = sets;
}

pub two-words : (low high h : ℕ) → h < 2 → slice_index (low ∷ high ∷ []) h ≡ (if h == 0 then low else high)
two-words low high h lt = elim (cases_eq h 0) as (λ _. slice_index (low ∷ high ∷ []) h ≡ (if h == 0 then low else high)) [
  | inl e ↦ ap (λ z. slice_index (low ∷ high ∷ []) z) e ∙ sym (rw (eq-eqb h 0 e) refl)
  | inr ne ↦ (let one : h ≡ 1 = omega arith in ap (λ z. slice_index (low ∷ high ∷ []) z) one ∙ sym (rw (ne_eqb h 0 ne) refl))
]
