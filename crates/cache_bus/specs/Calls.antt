-- What calls make of caches with their bus.
use Rattle.std.specs.Prelude.{◌≡◌, ℕ, ◌+◌, ◌*◌, ◌/◌, ◌≤◌, true, false, [], ◌∷◌, ◌++◌}
use Rattle.mips_isa.specs.Kinds.{stores}
use Rattle.image_file.specs.Value.{ImageValue, IsGood, code_lines}
use Rattle.access_log.specs.declared.Transaction.{Transaction}
use Rattle.access_log.specs.declared.Item.TheVariants as item
use Rattle.access_log.specs.declared.request.Request.{Request}
use Rattle.moesi_master.specs.declared.Phase.TheVariants as phase
use Rattle.moesi_master.specs.Moesi.{suffices}
use Rattle.moesi_master.specs.Phases.{is_on}
use Rattle.moesi_slave.specs.declared.SlavePhase.TheVariants.{Fresh}
use Rattle.letters.specs.Fold.{no_letters, FollowsFrom}
use Rattle.coherence.specs.Bus.{transitions_left}
use Rattle.cache_bus.specs.declared.bus.Bus.{Bus}
use Rattle.cache_bus.specs.Caches.{caches_of}
use Rattle.cache_bus.specs.View.{CacheBusView, slave_in, bus_in, letter_now}

-- Nothing was done yet, for an image, so many cores and sets.
pub record IsEmpty (image : ImageValue) (cores sets : ℕ) (s : CacheBusView) : Type 0 where
  pub image_is : s.image ≡ image
  pub good : IsGood s.image
  pub cores_are : s.cores ≡ cores
  pub sets_are : s.sets ≡ sets
  pub items : s.items ≡ []
  pub off : s.bus.phase ≡ phase.Off
  pub fresh : (cache : ℕ) → slave_in s.slaves cache ≡ Fresh

-- What no call changes.
pub record Keeps (old new : CacheBusView) : Type 0 where
  pub image : new.image ≡ old.image
  pub cores : new.cores ≡ old.cores
  pub sets : new.sets ≡ old.sets

-- The same transaction is on still.
pub record StaysOn (old new : CacheBusView) : Type 0 where
  pub kept : Keeps old new
  pub items : new.items ≡ old.items
  pub spare : new.spare ≡ old.spare
  pub on : is_on new.bus.phase ≡ true
  pub master : new.bus.master ≡ old.bus.master
  pub line : new.bus.line ≡ old.bus.line
  pub im : new.bus.im ≡ old.bus.im
  pub victim : new.bus.victim ≡ old.bus.victim
  pub abandoned : new.bus.abandoned ≡ old.bus.abandoned

-- A transition of the transaction that is on, but its last one.
pub record GoesOn (old new : CacheBusView) : Type 0 where
  pub stays : StaysOn old new
  pub left : transitions_left (bus_in new) (2 * new.cores) + 1 ≡ transitions_left (bus_in old) (2 * old.cores)

-- The transaction that is on stands for no request any more.
pub record Abandons (old new : CacheBusView) : Type 0 where
  pub kept : Keeps old new
  pub items : new.items ≡ old.items
  pub spare : new.spare ≡ old.spare
  pub bus : new.bus ≡ record old.bus { abandoned = true }
  pub slaves : new.slaves ≡ old.slaves

-- A history that followed the letters does so still.
abbrev pub StillFollows : CacheBusView → CacheBusView → Type 0
StillFollows old new =
    FollowsFrom (caches_of old.sets) old.cores (code_lines old.image) no_letters old.items
    → FollowsFrom (caches_of old.sets) old.cores (code_lines old.image) no_letters new.items

-- A transaction is on for a request on a cache.
pub record Begins (cache : ℕ) (r : Request) (old new : CacheBusView) : Type 0 where
  pub kept : Keeps old new
  pub items : new.items ≡ old.items
  pub spare : new.spare ≡ old.spare
  pub on : is_on new.bus.phase ≡ true
  pub master : new.bus.master ≡ cache
  pub line : new.bus.line ≡ r.addr / 8
  pub im : new.bus.im ≡ stores r.kind
  pub abandoned : new.bus.abandoned ≡ false
  pub slaves : new.slaves ≡ old.slaves
  pub left : transitions_left (bus_in new) (2 * new.cores) + 1 ≤ 4 * new.cores + 3

-- The item of a transaction that was on.
pub record IsOf (bus : Bus) (transaction : Transaction) : Type 0 where
  pub master : transaction.master ≡ bus.master
  pub line : transaction.line ≡ bus.line
  pub im : transaction.im ≡ bus.im
  pub victim : transaction.victim ≡ bus.victim

-- The transaction that is on ends, and stands in the history.
pub record Ends (old new : CacheBusView) : Type 0 where
  pub kept : Keeps old new
  pub items : (transaction : Transaction) × ((new.items ≡ old.items ++ item.Bus transaction ∷ []) × IsOf old.bus transaction)
  pub spare : new.spare + 1 ≡ old.spare
  pub off : new.bus.phase ≡ phase.Off
  pub follows : StillFollows old new
  -- Its master's request can be done now.
  pub hit : suffices (letter_now new old.bus.master old.bus.line) old.bus.im ≡ true
  pub fresh : (cache : ℕ) → slave_in new.slaves cache ≡ Fresh
