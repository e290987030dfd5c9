-- What a cache holds, with one line at most in each set.
use Rattle.std.specs.Prelude.{◌≡◌, ◌≢◌, ℕ, ◌/◌, ◌%◌, ◌<◌, true, not, if◌then◌else◌, ◌==◌, List, [], ◌∷◌, length, get_or, Option}
use Rattle.std.specs.Prelude.{Some, None, filter}
use Rattle.access_log.specs.declared.Letter.{Letter}
use Rattle.access_log.specs.declared.Letter.TheVariants.{I}
use Rattle.moesi_master.specs.Moesi.{is_held}
use Rattle.cache_ram.specs.declared.line.Line.{Line}

-- The letter of a line, a word by its number, and the lines, in a set that holds a line or none.
abbrev pub letter_at : Option Line → ℕ → Letter
letter_at None line = I
letter_at (Some held) line = if held.line == line then held.letter else I

abbrev pub word_at : Option Line → ℕ → ℕ
word_at None word = 0
word_at (Some held) word = if held.line == word / 2 then (if word % 2 == 0 then held.low else held.high) else 0

abbrev pub lines_at : Option Line → List ℕ
lines_at None = []
lines_at (Some held) = held.line ∷ []

-- What a set holds. A line stands in the set with the number that is the rest of its own by the number of sets.
abbrev pub slot : List (Option Line) → ℕ → Option Line
slot slots set = get_or slots set None

-- The letter of a line, I where it isn't held.
unfoldable pub letter_in : List (Option Line) → ℕ → Letter
letter_in slots line = letter_at (slot slots (line % length slots)) line

-- A word by its number; word i is of line i / 2, and is 0 where that isn't held.
unfoldable pub word_in : List (Option Line) → ℕ → ℕ
word_in slots word = word_at (slot slots (word / 2 % length slots)) word

-- The lines of a set, in the order in which they were filled.
unfoldable pub filled_in : List (Option Line) → ℕ → List ℕ
filled_in slots set = lines_at (slot slots set)

-- Without a line.
abbrev pub without : ℕ → List ℕ → List ℕ
without line lines = filter (λ other. not (other == line)) lines

-- What is held in a set has its number, and a letter other than I.
abbrev pub IsSoundSlot : ℕ → ℕ → Option Line → Type 0
IsSoundSlot sets set None = Unit {0}
IsSoundSlot sets set (Some held) = (held.line % sets ≡ set) × (is_held held.letter ≡ true)

pub record IsSound (slots : List (Option Line)) : Type 0 where
  pub some : 0 < length slots
  pub sound : (set : ℕ) → IsSoundSlot (length slots) set (slot slots set)

-- A line that goes to make room for another one of its set.
pub record IsVictim (slots : List (Option Line)) (line victim : ℕ) : Type 0 where
  pub held : is_held (letter_in slots victim) ≡ true
  pub other : victim ≢ line
  pub set : victim % length slots ≡ line % length slots
  pub room : length (without victim (filled_in slots (line % length slots))) < 1
