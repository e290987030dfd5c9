-- Caches with their bus, as contracts see them.
use Rattle.std.specs.Prelude.{◌≡◌, ℕ, ◌+◌, ◌/◌, ◌%◌, ◌^◌, Bool, true, false, not}
use Rattle.std.specs.Prelude.{◌&&◌, if◌then◌else◌, ◌==◌, List, Some, get_or, slice_index}
use Rattle.mips_isa.specs.Kinds.{stores}
use Rattle.image_file.specs.Value.{ImageValue, start_memory, code_lines}
use Rattle.access_log.specs.declared.Letter.{Letter}
use Rattle.access_log.specs.declared.Item.{Item}
use Rattle.access_log.specs.declared.request.Request.{Request}
use Rattle.access_log.specs.Items.{after_items}
use Rattle.access_log.specs.Requests.{old_at}
use Rattle.moesi_master.specs.Moesi.{suffices}
use Rattle.moesi_master.specs.declared.Phase.TheVariants.{Look}
use Rattle.moesi_master.specs.Phases.{phase_after}
use Rattle.moesi_slave.specs.declared.Seen.{Seen}
use Rattle.moesi_slave.specs.declared.SlavePhase.{SlavePhase}
use Rattle.moesi_slave.specs.declared.SlavePhase.TheVariants.{Fresh}
use Rattle.moesi_slave.specs.Slave.{is_fresh, is_latched, is_acted}
use Rattle.letters.specs.Fold.{no_letters, letters_after, FollowsFrom}
use Rattle.mem_port.specs.declared.port.Port.{Port}
use Rattle.mem_port.specs.declared.port.Port.TheVariants.{Fetch, Access}
use Rattle.coherence.specs.Bus.{BusView}
use Rattle.coherence.specs.Split.{now_letter}
use Rattle.cache_bus.specs.declared.bus.Bus.{Bus}
use Rattle.cache_bus.specs.Caches.{caches_of}

-- What isn't there is told in the history: the letters, words and main memory that its items make of the image.
pub record CacheBusView : Type 0 where
  pub image : ImageValue
  pub cores : ℕ
  pub sets : ℕ
  pub items : List Item
  -- The number of items that there is room for.
  pub spare : ℕ
  pub bus : Bus
  -- The part of each cache in the transaction that is on, by its number.
  pub slaves : List SlavePhase

-- The part of a cache in the transaction that is on.
abbrev pub slave_in : List SlavePhase → ℕ → SlavePhase
slave_in slaves cache = get_or slaves cache Fresh

-- A bus with the parts of the caches.
abbrev pub bus_view : Bus → List SlavePhase → BusView
bus_view bus slaves = record {
  phase = bus.phase;
  master = bus.master;
  line = bus.line;
  im = bus.im;
  victim = bus.victim;
  abandoned = bus.abandoned;
  supply = bus.supply;
  slave = slave_in slaves;
  ch = bus.ch;
  di = bus.di;
  word = λ half. if half == 0 then bus.low else bus.high;
}

-- The same of caches with their bus as contracts see them.
abbrev pub bus_in : CacheBusView → BusView
bus_in s = bus_view s.bus s.slaves

-- The letter of a line in a cache as it stands: that of the history, but where the transaction that is on has acted on it.
abbrev pub letter_now : CacheBusView → ℕ → ℕ → Letter
letter_now s cache line =
    now_letter (caches_of s.sets) (letters_after (caches_of s.sets) no_letters s.items).letter (bus_in s) cache line

-- Whether a request on a cache is done as it is served: a hit, on a line that isn't latched there.
abbrev pub serves_now : CacheBusView → ℕ → Request → Bool
serves_now s cache r =
    suffices (letter_now s cache (r.addr / 8)) (stores r.kind)
    && not (is_latched (slave_in s.slaves cache) && (r.addr / 8 == s.bus.line))

-- The word that answers a request: that of the code, or what the entries left.
abbrev pub IsAnswer : CacheBusView → Port → Request → ℕ → Type 0
IsAnswer s (Fetch core) r word = word ≡ slice_index s.image.code (r.addr / 4)
IsAnswer s (Access core) r word = word ≡ old_at (after_items (start_memory s.image) s.items) r

-- The port in front of a cache: cache 2c stands behind the fetches of core c, and cache 2c + 1 behind its accesses.
abbrev pub port_of : ℕ → Port
port_of cache = if cache % 2 == 0 then Fetch (cache / 2) else Access (cache / 2)

-- The history follows the letters.
abbrev pub FollowsLetters : CacheBusView → Type 0
FollowsLetters s = FollowsFrom (caches_of s.sets) s.cores (code_lines s.image) no_letters s.items

-- Whether a cache has still to look, or still to act.
abbrev pub is_left : Bool → SlavePhase → Bool
is_left true slave = is_fresh slave
is_left false slave = not (is_acted slave)

-- The bus after a look, where so many caches haven't looked yet.
abbrev pub looked : Bus → ℕ → Seen → ℕ → Bus
looked bus cache seen left = record bus {
  phase = phase_after Look left bus.supply;
  ch = bus.ch + (if seen.ch then 2 ^ cache else 0);
  di = if seen.di then Some cache else bus.di;
}
