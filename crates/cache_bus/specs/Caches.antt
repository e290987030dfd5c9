-- Lists of caches, and what the parts of a transaction make of one.
use Rattle.std.specs.Prelude.{◌≡◌, ◌≢◌, ℕ, ◌+◌, ◌*◌, ◌/◌, ◌%◌, ◌<◌, ◌≤◌, Bool, true, false}
use Rattle.std.specs.Prelude.{not, if◌then◌else◌, ◌==◌, List, [], ◌∷◌, ◌++◌, length}
use Rattle.std.specs.Prelude.{filter, get_or, slice_index, Option, Some, None, is_some}
use Rattle.access_log.specs.declared.Letter.{Letter}
use Rattle.access_log.specs.declared.Letter.TheVariants.{I}
use Rattle.access_log.specs.declared.Entry.{Entry}
use Rattle.moesi_master.specs.Moesi.{is_held, is_dirty, after_hit}
use Rattle.moesi_slave.specs.Slave.{after_act}
use Rattle.letters.specs.Caches.{Caches, moesi, all_with}
use Rattle.letters.specs.Fold.{is_that}
use Rattle.coherence.specs.Coherence.{IsCoherent, Agrees, word_after}
use Rattle.cache_ram.specs.declared.line.Line.{Line}
use Rattle.cache_ram.specs.Lines.{letter_in, word_in, filled_in}

-- A cache of a list, by its number.
abbrev pub cache_at : List (List (Option Line)) → ℕ → List (Option Line)
cache_at caches cache = get_or caches cache []

-- The letter of a line, by its cache.
abbrev pub letters_in : List (List (Option Line)) → ℕ → ℕ → Letter
letters_in caches cache line = letter_in (cache_at caches cache) line

-- The word with an index, by its cache.
abbrev pub words_in : List (List (Option Line)) → ℕ → ℕ → ℕ
words_in caches cache index = word_in (cache_at caches cache) index

-- The lines of a set in their order of fill, by its cache.
abbrev pub lines_in : List (List (Option Line)) → ℕ → ℕ → List ℕ
lines_in caches cache set = filled_in (cache_at caches cache) set

-- Caches that all hold their lines by the MOESI protocol, one in each of so many sets.
abbrev pub caches_of : ℕ → Caches
caches_of sets = all_with moesi sets 1

-- Whether main memory is behind a victim of a cache.
abbrev pub is_victim_dirty : (ℕ → ℕ → Letter) → ℕ → Option ℕ → Bool
is_victim_dirty letter cache None = false
is_victim_dirty letter cache (Some line) = is_dirty (letter cache line)

-- The lines of a set once another cache's transaction has acted on one of them.
abbrev pub filled_after_act : ℕ → Bool → List ℕ → List ℕ
filled_after_act line im lines = if im then filter (λ l. not (l == line)) lines else lines

-- The lines of a set once its cache's own transaction has brought one of them, which was held or wasn't.
abbrev pub filled_after_finish : ℕ → Option ℕ → Bool → List ℕ → List ℕ
filled_after_finish line victim was_held lines =
    if was_held then lines else (filter (λ l. not (is_that victim l)) lines ++ line ∷ [])

-- So many caches of so many sets, which hold no line.
pub record AreEmpty (count sets : ℕ) (caches : List (List (Option Line))) : Type 0 where
  pub len : length caches ≡ count
  pub letters : (cache line : ℕ) → letters_in caches cache line ≡ I
  pub filled : (cache set : ℕ) → lines_in caches cache set ≡ []
  pub sizes : (cache : ℕ) → cache < count → length (cache_at caches cache) ≡ sets

-- Main memory once the words of each line below n are those of its owner: they are those of any memory with which the caches
-- and main memory agree.
pub record Gathered (n : ℕ) (caches : List (List (Option Line))) (old now : List ℕ) : Type 0 where
  pub len : length now ≡ length old
  pub rest : (i : ℕ) → n ≤ i / 2 → slice_index now i ≡ slice_index old i
  pub done : (memory : List ℕ) → IsCoherent (length caches) (letters_in caches) memory old
      → Agrees (letters_in caches) (words_in caches) memory
      → (i : ℕ) → i / 2 < n → slice_index now i ≡ slice_index memory i

-- What another cache's transaction makes of a cache.
pub record Acted (line : ℕ) (im : Bool) (old new : List (Option Line)) : Type 0 where
  pub letters : (l : ℕ) → letter_in new l ≡ (if l == line then after_act (letter_in old l) im else letter_in old l)
  pub words : (i : ℕ) → is_held (letter_in new (i / 2)) ≡ true → word_in new i ≡ word_in old i
  pub filled : filled_in new (line % length old) ≡ filled_after_act line im (filled_in old (line % length old))
  pub filled_else : (set : ℕ) → set ≢ line % length old → filled_in new set ≡ filled_in old set
  pub sets : length new ≡ length old

-- What the end of a cache's own transaction makes of it.
pub record Installed (line : ℕ) (victim : Option ℕ) (letter : Letter) (word : ℕ → ℕ) (old new : List (Option Line)) : Type 0 where
  pub letters : (l : ℕ) → letter_in new l ≡ (if l == line then letter else (if is_that victim l then I else letter_in old l))
  pub filled_words : letter_in old line ≡ I → (h : ℕ) → h < 2 → word_in new (2 * line + h) ≡ word h
  pub stays : is_held (letter_in old line) ≡ true → (h : ℕ) → h < 2 → word_in new (2 * line + h) ≡ word_in old (2 * line + h)
  pub else_words : (i : ℕ) → i / 2 ≢ line → is_held (letter_in new (i / 2)) ≡ true → word_in new i ≡ word_in old i
  pub filled : filled_in new (line % length old)
      ≡ filled_after_finish line victim (is_held (letter_in old line)) (filled_in old (line % length old))
  pub filled_else : (set : ℕ) → set ≢ line % length old → filled_in new set ≡ filled_in old set
  pub sets : length new ≡ length old

-- What a hit makes of a cache.
pub record Touched (entry : Entry) (old new : List (Option Line)) : Type 0 where
  pub letters : (l : ℕ)
      → letter_in new l ≡ (if l == entry.addr / 8 then after_hit (letter_in old l) (is_some entry.new) else letter_in old l)
  pub here : word_in new (entry.addr / 4) ≡ word_after entry entry.new (word_in old (entry.addr / 4))
  pub words : (i : ℕ) → i ≢ entry.addr / 4 → word_in new i ≡ word_in old i
  pub filled : (set : ℕ) → filled_in new set ≡ filled_in old set
  pub sets : length new ≡ length old
