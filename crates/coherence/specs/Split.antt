-- What holds of caches, bus and main memory between two transitions.
use Rattle.std.specs.Prelude.{◌≡◌, ◌≢◌, ℕ, ◌+◌, ◌*◌, ◌%◌, ◌<◌, ◌≤◌, true, false, not}
use Rattle.std.specs.Prelude.{◌&&◌, ◌==◌, if◌then◌else◌, List, [], Some}
use Rattle.std.specs.Prelude.{length, filter, slice_index}
use Rattle.image_file.specs.Value.{ImageValue, start_memory, code_lines}
use Rattle.access_log.specs.declared.Letter.{Letter}
use Rattle.access_log.specs.declared.Letter.TheVariants.{I}
use Rattle.access_log.specs.declared.Entry.{Entry}
use Rattle.access_log.specs.declared.Transaction.{Transaction}
use Rattle.access_log.specs.declared.Item.{Item}
use Rattle.access_log.specs.Memory.{after}
use Rattle.access_log.specs.Items.{after_items}
use Rattle.moesi_master.specs.Moesi.{is_held, is_dirty, suffices}
use Rattle.moesi_master.specs.Phases.{is_on}
use Rattle.moesi_slave.specs.declared.SlavePhase.TheVariants.{Fresh}
use Rattle.moesi_slave.specs.Slave.{is_fresh, is_acted}
use Rattle.letters.specs.Caches.{Caches}
use Rattle.letters.specs.Fold.{LettersValue, no_letters, letters_after, after_entry, after_transaction, victim_of}
use Rattle.coherence.specs.Bus.{BusView, is_flushed, is_supplied, fits_phase, seen_by}
use Rattle.coherence.specs.Coherence.{IsCoherent, Agrees, flushed, main_after}

-- What caches, main memory and bus have: letters, words and lines in their order of fill, by cache and line, word or set.
pub record State : Type 0 where
  pub letter : ℕ → ℕ → Letter
  pub word : ℕ → ℕ → ℕ
  pub filled : ℕ → ℕ → List ℕ
  pub main : List ℕ
  pub bus : BusView

-- What a history says: its letters, the words that its entries left, and main memory.
pub record Past : Type 0 where
  pub letters : LettersValue
  pub memory : List ℕ
  pub main : List ℕ

-- After a list of items from the start on.
abbrev pub past_of : ImageValue → Caches → List Item → Past
past_of image caches items = record {
  letters = letters_after caches no_letters items;
  memory = after_items (start_memory image) items;
  main = main_after caches no_letters (start_memory image) (start_memory image) items;
}

-- With an entry more, and with a transaction more.
abbrev pub past_entry : Past → Entry → Past
past_entry past entry = record { letters = after_entry past.letters entry; memory = after past.memory entry; main = past.main }

abbrev pub past_bus : Caches → Past → Transaction → Past
past_bus caches past bus = record {
  letters = after_transaction caches past.letters bus;
  memory = past.memory;
  main = flushed past.letters.letter past.memory past.main bus.master bus.victim;
}

-- A letter as a cache has it: that of the history, but on the line of the bus where the cache has acted.
abbrev pub now_letter : Caches → (ℕ → ℕ → Letter) → BusView → ℕ → ℕ → Letter
now_letter caches letter bus cache line =
    if is_acted (bus.slave cache) && (line == bus.line) then (caches.protocol cache).after_act (letter cache line) bus.im
    else letter cache line

-- The lines of a set, likewise.
abbrev pub now_filled : Caches → (ℕ → ℕ → List ℕ) → BusView → ℕ → ℕ → List ℕ
now_filled caches filled bus cache set =
    if is_acted (bus.slave cache) && (set == bus.line % caches.sets)
    then (if bus.im then filter (λ line. not (line == bus.line)) (filled cache set) else filled cache set) else filled cache set

-- Main memory as it stands: that of the history, and from the flush on with a dirty victim's words.
abbrev pub now_main : (ℕ → ℕ → Letter) → List ℕ → List ℕ → BusView → List ℕ
now_main letter memory main bus = if is_flushed bus.phase then flushed letter memory main bus.master bus.victim else main

-- While a transaction is on, with the letters and words of the history without it.
pub record IsOn (caches : Caches) (cores code_lines : ℕ) (letters : LettersValue) (memory : List ℕ) (bus : BusView) : Type 0 where
  pub master : bus.master < 2 * cores
  pub inside : 2 * bus.line + 1 < length memory
  -- The master needs it, and an instruction cache reads code.
  pub lacks : suffices (letters.letter bus.master bus.line) bus.im ≡ false
  pub code : bus.master % 2 ≡ 0 → (bus.im ≡ false) × (bus.line < code_lines)
  pub makes_room : bus.victim ≡ victim_of caches.ways (letters.letter bus.master bus.line)
      (letters.filled bus.master (bus.line % caches.sets))
  pub supplies : bus.supply ≡ not (is_held (letters.letter bus.master bus.line))
  pub victim_held : (line : ℕ) → bus.victim ≡ Some line → (line ≢ bus.line) × (is_held (letters.letter bus.master line) ≡ true)
  -- What caches that have looked hold and own is on the bus.
  pub held_by : bus.ch ≡ seen_by letters.letter bus.slave bus.master bus.line (2 * cores)
  pub owns : (cache : ℕ) → bus.di ≡ Some cache
      → (cache ≢ bus.master) × ((is_fresh (bus.slave cache) ≡ false) × (is_dirty (letters.letter cache bus.line) ≡ true))
  pub owner : (cache : ℕ) → cache ≢ bus.master → is_fresh (bus.slave cache) ≡ false → is_dirty (letters.letter cache bus.line) ≡ true
      → bus.di ≡ Some cache
  -- The words on the bus are those that the entries left, where the master needs them.
  pub supplied : is_supplied bus.phase ≡ true → letters.letter bus.master bus.line ≡ I
      → (half : ℕ) → half < 2 → bus.word half ≡ slice_index memory (2 * bus.line + half)

-- What each transition keeps, and each hit and withdrawal between them.
pub record IsSplit (image : ImageValue) (caches : Caches) (cores : ℕ) (past : Past) (state : State) : Type 0 where
  pub letters_are : (cache line : ℕ) → state.letter cache line ≡ now_letter caches past.letters.letter state.bus cache line
  pub filled_are : (cache set : ℕ) → state.filled cache set ≡ now_filled caches past.letters.filled state.bus cache set
  pub main_is : state.main ≡ now_main past.letters.letter past.memory past.main state.bus
  pub coherent : IsCoherent (2 * cores) past.letters.letter past.memory state.main
  pub agrees : Agrees state.letter state.word past.memory
  pub code : (i : ℕ) → i < length image.code → slice_index past.memory i ≡ slice_index image.code i
  -- The master isn't among those that look and act, nor is a cache that isn't there; the others are as far as the phase says.
  pub master : state.bus.slave state.bus.master ≡ Fresh
  pub beyond : (cache : ℕ) → 2 * cores ≤ cache → state.bus.slave cache ≡ Fresh
  pub empty : (cache set : ℕ) → 2 * cores ≤ cache → past.letters.filled cache set ≡ []
  pub phases : (cache : ℕ) → cache ≢ state.bus.master → cache < 2 * cores → fits_phase state.bus.phase (state.bus.slave cache) ≡ true
  pub on : is_on state.bus.phase ≡ true → IsOn caches cores (code_lines image) past.letters past.memory state.bus
