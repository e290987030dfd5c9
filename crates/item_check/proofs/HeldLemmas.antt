-- The lines of a set, by the places at which they stand.
use Rattle.std.proofs.Common.{◌≡◌, ℕ, zero, suc, ◌<◌, Bool, true, false, List, [], ◌∷◌, ◌++◌, length, get_or}
use Rattle.std.proofs.Common.{refl, ap, sym, ◌∙◌, arith, subst, length-set}
use Rattle.std.specs.Prelude.{◌==◌, Option, Some, None, slice_set}
use Rattle.std.specs.List.{position, refill}
use Rattle.std.proofs.lemmas.Bool.Decides.{nat_tests}
use Rattle.std.proofs.lemmas.Option.{same_Some}
use Rattle.arrayvec.proofs.ArrayVecLemmas.{items-with_items}
use Rattle.access_log.specs.declared.Letter.{Letter}
use Rattle.access_log.specs.declared.Letter.TheVariants.{I}
use Rattle.item_check.specs.declared.held.HeldLine.{HeldLine}
use Rattle.item_check.specs.Held.{letter_in, with_letter, without_that}
use Rattle.item_check.specs.Places.{place_of}

pub place_of-position : (lines : List HeldLine) (line : ℕ) → place_of lines line ≡ position (λ held. held.line == line) lines
place_of-position [] line = refl
place_of-position (held ∷ more) line = grind (arith, nat_tests, place_of-position more line)

-- What stands at a place.
pub record StandsAt (lines : List HeldLine) (line place : ℕ) : Type 0 where
  pub within : place < length lines
  pub letter : (default : HeldLine) → letter_in lines line ≡ (get_or lines place default).letter
  pub with : (letter : Letter) → with_letter lines line letter ≡ slice_set lines place (record { line = line; letter = letter })

pub stands-at : (lines : List HeldLine) (line place : ℕ) → place_of lines line ≡ Some place → StandsAt lines line place
stands-at [] line place e = cc
stands-at (held ∷ more) line place e = by (held.line == line) refl (place_of more line) refl (λ place is. stands-at more line place is)
  where
    by : (same : Bool) → (held.line == line) ≡ same → (rest : Option ℕ) → place_of more line ≡ rest
        → ((place : ℕ) → place_of more line ≡ Some place → StandsAt more line place) → StandsAt (held ∷ more) line place
    by true same rest is later =
        let found : Some 0 ≡ Some place = rw same at e in
        let first : 0 ≡ place = same_Some 0 place found in
        subst (StandsAt (held ∷ more) line) first
        (record { within = omega arith; letter = λ default. rw same refl; with = λ letter. rw same refl })
    by false same None is later =
        let found : None ≡ Some place = rw (same, is) at e in
        cc
    by false same (Some before) is later =
        let found : Some (suc before) ≡ Some place = rw (same, is) at e in
        let next : suc before ≡ place = same_Some (suc before) place found in
        let there = later before is in
        subst (StandsAt (held ∷ more) line) next (record {
          within = omega (arith, there.within);
          letter = λ default. rw same (there.letter default);
          with = λ letter. rw same (ap (λ lines. held ∷ lines) (there.with letter));
        })

pub stands-nowhere : (lines : List HeldLine) (line : ℕ) → place_of lines line ≡ None
    → (letter_in lines line ≡ I) × ((letter : Letter) → with_letter lines line letter ≡ lines)
stands-nowhere [] line e = (refl, λ letter. refl)
stands-nowhere (held ∷ more) line e = by (held.line == line) refl (place_of more line) refl (stands-nowhere more line)
  where
    by : (same : Bool) → (held.line == line) ≡ same → (rest : Option ℕ) → place_of more line ≡ rest
        → (place_of more line ≡ None → (letter_in more line ≡ I) × ((letter : Letter) → with_letter more line letter ≡ more))
        → (letter_in (held ∷ more) line ≡ I) × ((letter : Letter) → with_letter (held ∷ more) line letter ≡ held ∷ more)
    by true same rest is later =
        let found : ◌≡◌ {A = Option ℕ} (Some 0) None = rw same at e in
        cc
    by false same (Some place) is later =
        let found : Some (suc place) ≡ None = rw (same, is) at e in
        cc
    by false same None is later =
        let there = later is in
        (rw same there.0, λ letter. rw same (ap (λ lines. held ∷ lines) (there.1 letter)))

-- As a call reads them, where the place was found in the lines.
module _ (lines : List HeldLine) (line place : ℕ) (found : Option ℕ) (is : found ≡ place_of lines line) (some : found ≡ Some place) where
  pub place-within : (now : List HeldLine) → now ≡ lines → place < length now
  place-within now same = subst (λ xs. place < length xs) (sym same) (stands-at lines line place (sym is ∙ some)).within

  pub place-letter : (now : List HeldLine) (default : HeldLine) → now ≡ lines → (get_or now place default).letter ≡ letter_in lines line
  place-letter now default same =
      ap (λ xs. (get_or xs place default).letter) same ∙ sym ((stands-at lines line place (sym is ∙ some)).letter default)

  pub place-with : (now items : List HeldLine) (letter : Letter) → now ≡ items → items ≡ lines
      → refill (length items) items (slice_set now place (record { line = line; letter = letter })) ≡ with_letter lines line letter
  place-with now items letter same whole =
      items-with_items (record { items = items }) (slice_set now place (record { line = line; letter = letter }))
      (length-set now place (record { line = line; letter = letter }) ∙ ap length same)
      ∙ (ap (λ xs. slice_set xs place (record { line = line; letter = letter })) (same ∙ whole)
      ∙ sym ((stands-at lines line place (sym is ∙ some)).with letter))

-- Nothing makes room.
pub without_none : (lines : List HeldLine) → without_that None lines ≡ lines
without_none [] = refl
without_none (held ∷ more) = ap (λ lines. held ∷ lines) (without_none more)

pub without_some : (lines : List HeldLine) (victim : Option ℕ) → victim ≡ None → lines ≡ without_that victim lines
without_some lines victim e = sym (ap (λ that. without_that that lines) e ∙ without_none lines)

-- Sets without a line.
pub push_empty : (sets more : List (List HeldLine)) → more ≡ sets ++ [] ∷ [] → ((set : ℕ) → get_or sets set [] ≡ [])
    → (set : ℕ) → get_or more set [] ≡ []
push_empty sets more e none set = ap (λ xs. get_or xs set []) e ∙ by sets none set
  where
    by : (sets : List (List HeldLine)) → ((set : ℕ) → get_or sets set [] ≡ []) → (set : ℕ) → get_or (sets ++ [] ∷ []) set [] ≡ []
    by [] none zero = refl
    by [] none (suc set) = refl
    by (lines ∷ sets) none zero = none 0
    by (lines ∷ sets) none (suc set) = by sets (λ k. none (suc k)) set
