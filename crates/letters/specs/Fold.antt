-- What the items of a history make of the letters, and when they follow them. No words appear here: a transaction is one item.
use Rattle.std.specs.Prelude.{◌≡◌, ℕ, zero, suc, ◌+◌, ◌*◌, ◌/◌, ◌%◌, ◌^◌, ◌<◌, Bool, true, false, ◌&&◌, not, nat_lt, ◌==◌}
use Rattle.std.specs.Prelude.{if◌then◌else◌, List, [], ◌∷◌, ◌++◌, Option, Some, None, is_some, length, filter, slice_get}
use Rattle.access_log.specs.declared.Letter.{Letter}
use Rattle.access_log.specs.declared.Letter.TheVariants.{I}
use Rattle.access_log.specs.declared.Entry.{Entry}
use Rattle.access_log.specs.declared.Transaction.{Transaction}
use Rattle.access_log.specs.declared.Item.{Item}
use Rattle.access_log.specs.declared.Item.TheVariants.{Done, Bus}
use Rattle.access_log.specs.Items.{transactions}
use Rattle.moesi_master.specs.Moesi.{is_held, is_dirty, is_hit, suffices, after_hit}
use Rattle.letters.specs.Caches.{Caches}

-- The letter of each line in each cache, and the lines in each set of each cache, in the order in which they were filled.
-- Cache 2c has the instructions of core c, and cache 2c + 1 its data. Line k has the bytes from 8k on.
pub record LettersValue : Type 0 where
  pub letter : ℕ → ℕ → Letter
  pub filled : ℕ → ℕ → List ℕ

-- At the start no cache holds a line.
abbrev pub no_letters : LettersValue
no_letters = record { letter = λ cache line. I; filled = λ cache set. [] }

-- The data cache of an entry's core.
abbrev pub cache_of : Entry → ℕ
cache_of entry = 2 * entry.core + 1

-- The line of an entry.
abbrev pub line_of : Entry → ℕ
line_of entry = entry.addr / 8

-- The letters after an entry: it is a hit in its core's data cache.
abbrev pub letter_after_entry : LettersValue → Entry → ℕ → ℕ → Letter
letter_after_entry letters entry cache line =
    if (cache == cache_of entry) && (line == line_of entry)
    then after_hit (letters.letter cache line) (is_some entry.new) else letters.letter cache line

abbrev pub after_entry : LettersValue → Entry → LettersValue
after_entry letters entry = record { letter = letter_after_entry letters entry; filled = letters.filled }

-- Whether a line is the one, where there is one.
abbrev pub is_that : Option ℕ → ℕ → Bool
is_that None line = false
is_that (Some that) line = line == that

-- The letters after a transaction: the master drops its victim and holds the line, and each other cache acts on it by its own
-- protocol.
abbrev pub letter_after_transaction : Caches → LettersValue → Transaction → ℕ → ℕ → Letter
letter_after_transaction caches letters bus cache line =
    if cache == bus.master
    then (if line == bus.line then bus.letter else (if is_that bus.victim line then I else letters.letter cache line))
    else (if line == bus.line then (caches.protocol cache).after_act (letters.letter cache line) bus.im else letters.letter cache line)

-- The lines of a set after a transaction: those that are held still, in their order, and behind them the line where it was filled.
abbrev pub filled_after_transaction : LettersValue → Transaction → ℕ → List ℕ → List ℕ
filled_after_transaction letters bus cache lines =
    if cache == bus.master
    then (if is_held (letters.letter cache bus.line) then lines
    else (filter (λ line. not (is_that bus.victim line)) lines ++ bus.line ∷ []))
    else (if bus.im then filter (λ line. not (line == bus.line)) lines else lines)

abbrev pub after_transaction : Caches → LettersValue → Transaction → LettersValue
after_transaction caches letters bus = record {
  letter = letter_after_transaction caches letters bus;
  filled = λ cache set.
      if set == bus.line % caches.sets then filled_after_transaction letters bus cache (letters.filled cache set)
      else letters.filled cache set;
}

-- The letters after a list of items.
abbrev pub letters_after : Caches → LettersValue → List Item → LettersValue
letters_after caches letters [] = letters
letters_after caches letters (Done entry ∷ items) = letters_after caches (after_entry letters entry) items
letters_after caches letters (Bus bus ∷ items) = letters_after caches (after_transaction caches letters bus) items

-- The caches with numbers below n, other than the master, that hold a line: bit k of the sum stands for cache k.
abbrev pub holders : (ℕ → ℕ → Letter) → ℕ → ℕ → ℕ → ℕ
holders letter master line zero = 0
holders letter master line (suc n) =
    holders letter master line n + (if not (n == master) && is_held (letter n line) then 2 ^ n else 0)

-- The cache that supplies a line's words: of those with numbers below n, other than the master, the one that holds it dirty.
-- Where accesses store only by kinds that do, a history that follows the letters leaves at most one; of more, it is the last.
abbrev pub supplier_of : (ℕ → ℕ → Letter) → ℕ → ℕ → ℕ → Option ℕ
supplier_of letter master line zero = None
supplier_of letter master line (suc n) =
    if not (n == master) && is_dirty (letter n line) then Some n else supplier_of letter master line n

-- The line that makes room for another in its set: none where the other is held or there is room, else the first one filled.
abbrev pub victim_of : ℕ → Letter → List ℕ → Option ℕ
victim_of ways letter lines = if is_held letter then None else (if nat_lt (length lines) ways then None else slice_get lines 0)

-- A transaction that the letters allow, for so many cores and lines of code.
pub record IsAllowed (caches : Caches) (cores code_lines : ℕ) (letters : LettersValue) (bus : Transaction) : Type 0 where
  pub master : bus.master < 2 * cores
  -- The master needs it.
  pub lacks : suffices (letters.letter bus.master bus.line) bus.im ≡ false
  -- An instruction cache reads code.
  pub code : bus.master % 2 ≡ 0 → (bus.im ≡ false) × (bus.line < code_lines)
  -- All other caches that hold the line say so, and no other.
  pub held_by : bus.ch ≡ holders letters.letter bus.master bus.line (2 * cores)
  -- The one that holds it dirty supplies it.
  pub supplier : bus.di ≡ supplier_of letters.letter bus.master bus.line (2 * cores)
  pub makes_room : bus.victim ≡ victim_of caches.ways (letters.letter bus.master bus.line)
      (letters.filled bus.master (bus.line % caches.sets))
  pub becomes : bus.letter ≡ (caches.protocol bus.master).after_finish bus.im bus.ch

-- From these letters on, each entry is a hit in its core's data cache, and each transaction is allowed.
abbrev pub FollowsFrom : Caches → ℕ → ℕ → LettersValue → List Item → Type 0
FollowsFrom caches cores code_lines letters [] = Unit {0}
FollowsFrom caches cores code_lines letters (Done entry ∷ items) =
    (is_hit (letters.letter (cache_of entry) (line_of entry)) entry.kind ≡ true)
    × FollowsFrom caches cores code_lines (after_entry letters entry) items
FollowsFrom caches cores code_lines letters (Bus bus ∷ items) =
    IsAllowed caches cores code_lines letters bus
    × FollowsFrom caches cores code_lines (after_transaction caches letters bus) items

-- A history follows the letters of its caches. Where there are none, there is no bus.
abbrev pub Follows : Option Caches → ℕ → ℕ → List Item → Type 0
Follows None cores code_lines items = transactions items ≡ []
Follows (Some caches) cores code_lines items = FollowsFrom caches cores code_lines no_letters items
