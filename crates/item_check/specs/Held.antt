-- What caches hold, as lists of lines, and the letters that these are.
use Rattle.std.specs.Prelude.{◌≡◌, ℕ, ◌*◌, ◌%◌, ◌<◌, ◌≤◌, Bool, true, not, ◌==◌, if◌then◌else◌}
use Rattle.std.specs.Prelude.{List, [], ◌∷◌, ◌++◌, Option, map, filter, length, get_or, slice_set}
use Rattle.std.specs.List.{AllByRecursion}
use Rattle.access_log.specs.declared.Letter.{Letter}
use Rattle.access_log.specs.declared.Letter.TheVariants.{I}
use Rattle.moesi_master.specs.Moesi.{is_held}
use Rattle.moesi_slave.specs.Slave.{after_act}
use Rattle.item_check.specs.declared.held.HeldLine.{HeldLine}
use Rattle.letters.specs.Caches.{Caches, moesi, all_with}
use Rattle.letters.specs.Fold.{LettersValue, is_that}

-- The letter of a line among those of its set.
abbrev pub letter_in : List HeldLine → ℕ → Letter
letter_in [] line = I
letter_in (held ∷ more) line = if held.line == line then held.letter else letter_in more line

-- The numbers of the lines of a set.
abbrev pub numbers : List HeldLine → List ℕ
numbers lines = map (λ held. held.line) lines

-- A line of a set has another letter.
abbrev pub with_letter : List HeldLine → ℕ → Letter → List HeldLine
with_letter [] line letter = []
with_letter (held ∷ more) line letter =
    if held.line == line then record { line = line; letter = letter } ∷ more else held ∷ with_letter more line letter

-- A set without a line.
abbrev pub without : ℕ → List HeldLine → List HeldLine
without line lines = filter (λ held. not (held.line == line)) lines

abbrev pub without_that : Option ℕ → List HeldLine → List HeldLine
without_that that lines = filter (λ held. not (is_that that held.line)) lines

-- A set of another cache than the master after a transaction of a line.
abbrev pub acted : ℕ → Bool → List HeldLine → List HeldLine
acted line im lines = if im then without line lines else with_letter lines line (after_act (letter_in lines line) im)

-- The set of the line in the master.
abbrev pub finished : ℕ → Option ℕ → Letter → List HeldLine → List HeldLine
finished line victim letter lines =
    if is_held (letter_in lines line) then with_letter lines line letter
    else without_that victim lines ++ record { line = line; letter = letter } ∷ []

-- The set of a line in a cache, and the cache with another one in its place.
abbrev pub set_for : List (List HeldLine) → ℕ → List HeldLine
set_for sets line = get_or sets (line % length sets) []

abbrev pub with_set_for : List (List HeldLine) → ℕ → List HeldLine → List (List HeldLine)
with_set_for sets line lines = slice_set sets (line % length sets) lines

-- Caches that follow MOESI, in front of so many lines of code, with the lines that each holds, set by set, each set in the order
-- in which its lines were filled.
pub record HeldLetters : Type 0 where
  pub sets : ℕ
  pub ways : ℕ
  pub cores : ℕ
  pub code_lines : ℕ
  pub held : List (List (List HeldLine))

abbrev pub caches_of : HeldLetters → Caches
caches_of letters = all_with moesi letters.sets letters.ways

-- The lines of a set of a cache; there are none where there is no such set or cache.
abbrev pub lines_of : List (List (List HeldLine)) → ℕ → ℕ → List HeldLine
lines_of held cache set = get_or (get_or held cache []) set []

-- The letter of a line in a cache.
abbrev pub letter_at : List (List (List HeldLine)) → ℕ → ℕ → Letter
letter_at held cache line = letter_in (set_for (get_or held cache []) line) line

-- The letters that they are.
abbrev pub letters_of : HeldLetters → LettersValue
letters_of letters = record {
  letter = letter_at letters.held;
  filled = λ cache set. numbers (lines_of letters.held cache set);
}

-- Each cache has a set.
abbrev pub HaveSets : List (List (List HeldLine)) → Type 0
HaveSets held = (cache : ℕ) → cache < length held → 0 < length (get_or held cache [])

-- A cache after another cache's transaction of a line; the master has its own part in it.
abbrev pub acted_beside : ℕ → ℕ → Bool → ℕ → List (List HeldLine) → List (List HeldLine)
acted_beside master line im cache sets =
    if cache == master then sets else with_set_for sets line (acted line im (set_for sets line))

-- A line that may stand in a set.
pub record IsInSet (sets set : ℕ) (line : HeldLine) : Type 0 where
  pub held : is_held line.letter ≡ true
  pub here : line.line % sets ≡ set

-- Nothing but lines of a set stand in it, and no more than it has room for.
pub record IsSet (sets ways set : ℕ) (lines : List HeldLine) : Type 0 where
  pub lines_are : AllByRecursion (IsInSet sets set) lines
  pub room : length lines ≤ ways

pub record AreHeld (letters : HeldLetters) : Type 0 where
  pub some_sets : 0 < letters.sets
  pub some_ways : 0 < letters.ways
  pub few_ways : letters.ways ≤ 8
  pub few_cores : letters.cores ≤ 8
  pub caches : length letters.held ≡ 2 * letters.cores
  pub shape : (cache : ℕ) → cache < 2 * letters.cores → length (get_or letters.held cache []) ≡ letters.sets
  pub sets_are : (cache set : ℕ) → IsSet letters.sets letters.ways set (lines_of letters.held cache set)

-- What no item changes.
pub record IsKept (old new : HeldLetters) : Type 0 where
  pub caches : caches_of new ≡ caches_of old
  pub cores : new.cores ≡ old.cores
  pub code_lines : new.code_lines ≡ old.code_lines
