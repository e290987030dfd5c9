-- What caches, main memory, bus and history have to do with one another.
use Rattle.std.specs.Prelude.{◌≡◌, ℕ, ◌*◌, ◌<◌, ◌≤◌, true, List, length, Option, Some}
use Rattle.image_file.specs.Value.{ImageValue, IsGood}
use Rattle.access_log.specs.declared.Item.{Item}
use Rattle.moesi_master.specs.Phases.{is_on}
use Rattle.moesi_slave.specs.declared.SlavePhase.{SlavePhase}
use Rattle.cache_ram.specs.declared.line.Line.{Line}
use Rattle.cache_ram.specs.Lines.{IsVictim}
use Rattle.coherence.specs.Bus.{BusView, left_in_phase}
use Rattle.coherence.specs.Split.{State, Past, past_of, IsSplit}
use Rattle.cache_bus.specs.declared.bus.Bus.{Bus}
use Rattle.cache_bus.specs.Caches.{cache_at, letters_in, words_in, lines_in, caches_of}
use Rattle.cache_bus.specs.View.{CacheBusView, slave_in, bus_view}

-- Caches with their bus as they are, but for the room of the history.
pub record Inside : Type 0 where
  pub image : ImageValue
  pub cores : ℕ
  pub sets : ℕ
  pub caches : List (List (Option Line))
  pub main : List ℕ
  pub bus : Bus
  pub slaves : List SlavePhase
  pub items : List Item

-- What others see of it.
abbrev pub shown : Inside → ℕ → CacheBusView
shown s spare =
    record { image = s.image; cores = s.cores; sets = s.sets; items = s.items; spare = spare; bus = s.bus; slaves = s.slaves }

-- The bus with the parts of the caches.
abbrev pub bus_of : Inside → BusView
bus_of s = bus_view s.bus s.slaves

-- The state of caches, main memory and bus.
abbrev pub state_of : Inside → State
state_of s = record {
  letter = letters_in s.caches;
  word = words_in s.caches;
  filled = lines_in s.caches;
  main = s.main;
  bus = bus_of s;
}

-- What the history says.
abbrev pub past_in : Inside → Past
past_in s = past_of s.image (caches_of s.sets) s.items

-- What never changes: the image is a good one, there are 1 to 8 cores, and two caches of so many sets for each of them.
pub record IsFit (image : ImageValue) (cores sets : ℕ) (caches : List (List (Option Line))) (slaves : ℕ) : Type 0 where
  pub good : IsGood image
  pub some_cores : 1 ≤ cores
  pub few : cores ≤ 8
  pub some_sets : 0 < sets
  pub count : length caches ≡ 2 * cores
  pub parts : slaves ≡ 2 * cores
  pub sizes : (cache : ℕ) → cache < 2 * cores → length (cache_at caches cache) ≡ sets

-- Caches, main memory and bus are what the history says.
pub record Holds (s : Inside) : Type 0 where
  pub fit : IsFit s.image s.cores s.sets s.caches (length s.slaves)
  -- The victim of the transaction that is on can go.
  pub room : is_on s.bus.phase ≡ true → (v : ℕ) → s.bus.victim ≡ Some v → IsVictim (cache_at s.caches s.bus.master) s.bus.line v
  -- In each phase something is left to be done.
  pub going : is_on s.bus.phase ≡ true → 1 ≤ left_in_phase s.bus.phase (slave_in s.slaves) s.bus.master (2 * s.cores)
  pub split : IsSplit s.image (caches_of s.sets) s.cores (past_in s) (state_of s)
