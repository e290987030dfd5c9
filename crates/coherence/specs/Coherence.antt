-- What letters, the words that entries left, and main memory have to do with one another.
use Rattle.std.specs.Prelude.{◌≡◌, ◌≢◌, ℕ, ◌+◌, ◌*◌, ◌/◌, ◌<◌, ◌≤◌, Bool, true, false, if◌then◌else◌, List, [], ◌∷◌, Option, Some, None}
use Rattle.std.specs.Prelude.{length, slice_index, slice_set}
use Rattle.mips_isa.specs.Kinds.{with_part}
use Rattle.access_log.specs.declared.Letter.{Letter}
use Rattle.access_log.specs.declared.Letter.TheVariants.{M, I}
use Rattle.access_log.specs.declared.Entry.{Entry}
use Rattle.access_log.specs.declared.Item.{Item}
use Rattle.access_log.specs.declared.Item.TheVariants.{Done, Bus}
use Rattle.access_log.specs.Memory.{after}
use Rattle.moesi_master.specs.Moesi.{is_held, is_sole, is_dirty}
use Rattle.letters.specs.Caches.{Protocol, Caches}
use Rattle.letters.specs.Fold.{LettersValue, after_entry, after_transaction}

-- What a protocol's tables have to be, so that copies stay right.
pub record IsTable (protocol : Protocol) : Type 0 where
  -- Another cache that acts on an intent to modify drops the line; its copy never is the only one.
  pub gone : (letter : Letter) → protocol.after_act letter true ≡ I
  pub not_sole : (letter : Letter) (im : Bool) → is_sole (protocol.after_act letter im) ≡ false
  pub was_held : (letter : Letter) (im : Bool) → is_held (protocol.after_act letter im) ≡ true → is_held letter ≡ true
  pub was_dirty : (letter : Letter) (im : Bool) → is_dirty (protocol.after_act letter im) ≡ true → is_dirty letter ≡ true
  -- The master may store behind an intent to modify, else read; it is sole only where no other cache held the line.
  pub stores : (held_by : ℕ) → protocol.after_finish true held_by ≡ M
  pub reads : (held_by : ℕ) → is_held (protocol.after_finish false held_by) ≡ true
  pub reads_clean : (held_by : ℕ) → is_dirty (protocol.after_finish false held_by) ≡ false
  pub reads_sole : (held_by : ℕ) → is_sole (protocol.after_finish false held_by) ≡ true → held_by ≡ 0

-- A dirty copy stays dirty where another cache reads it, so main memory needn't be written.
abbrev pub KeepsDirty : Protocol → Type 0
KeepsDirty protocol = (letter : Letter) → is_dirty letter ≡ true → is_dirty (protocol.after_act letter false) ≡ true

-- Each cache's protocol has such tables, and its dirty copies stay dirty so.
pub record AreTables (caches : Caches) : Type 0 where
  pub tables : (cache : ℕ) → IsTable (caches.protocol cache)
  pub keeps : (cache : ℕ) → KeepsDirty (caches.protocol cache)

-- Only the first `count` caches hold lines, and lines of memory; a sole copy is alone; there is one dirty copy at most; and
-- where there is none, main memory has the line's words.
pub record IsCoherent (count : ℕ) (letter : ℕ → ℕ → Letter) (memory main : List ℕ) : Type 0 where
  pub within : (cache line : ℕ) → count ≤ cache → letter cache line ≡ I
  pub inside : (cache line : ℕ) → is_held (letter cache line) ≡ true → 2 * line + 1 < length memory
  pub alone : (cache other line : ℕ) → is_sole (letter cache line) ≡ true → other ≢ cache → letter other line ≡ I
  pub owner : (cache other line : ℕ) → is_dirty (letter cache line) ≡ true → is_dirty (letter other line) ≡ true → other ≡ cache
  pub size : length main ≡ length memory
  pub clean : (word : ℕ) → ((cache : ℕ) → is_dirty (letter cache (word / 2)) ≡ false) → slice_index main word ≡ slice_index memory word

-- Each copy has the words that the entries left.
abbrev pub Agrees : (ℕ → ℕ → Letter) → (ℕ → ℕ → ℕ) → List ℕ → Type 0
Agrees letter word memory = (cache i : ℕ) → is_held (letter cache (i / 2)) ≡ true → word cache i ≡ slice_index memory i

-- A word after an entry on it.
abbrev pub word_after : Entry → Option ℕ → ℕ → ℕ
word_after entry None word = word
word_after entry (Some value) word = with_part entry.kind entry.addr word value

-- A list with the words of one line of another one.
abbrev pub with_line : List ℕ → List ℕ → ℕ → List ℕ
with_line main memory line =
    slice_set (slice_set main (2 * line) (slice_index memory (2 * line))) (2 * line + 1) (slice_index memory (2 * line + 1))

-- Main memory after a flush: a dirty victim's words are written back.
abbrev pub flushed : (ℕ → ℕ → Letter) → List ℕ → List ℕ → ℕ → Option ℕ → List ℕ
flushed letter memory main master None = main
flushed letter memory main master (Some line) = if is_dirty (letter master line) then with_line main memory line else main

-- Main memory after a list of items: each transaction writes a dirty victim back.
abbrev pub main_after : Caches → LettersValue → List ℕ → List ℕ → List Item → List ℕ
main_after caches letters memory main [] = main
main_after caches letters memory main (Done entry ∷ items) =
    main_after caches (after_entry letters entry) (after memory entry) main items
main_after caches letters memory main (Bus bus ∷ items) =
    main_after caches (after_transaction caches letters bus) memory (flushed letters.letter memory main bus.master bus.victim) items
