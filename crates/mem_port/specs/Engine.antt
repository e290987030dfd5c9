-- The law of an engine that runs one core.
use Rattle.std.specs.Prelude.{◌≡◌, ℕ, ◌+◌, ◌/◌, ◌⊎◌, Bool, true, false, Option, Some, None, slice_index}
use Rattle.mips_isa.specs.declared.CoreState.{CoreState}
use Rattle.image_file.specs.Value.{ImageValue}
use Rattle.access_log.specs.declared.request.Request.{Request}
use Rattle.mem_port.specs.Loaded.{stop, quiet, request, finish, on_code}
use Rattle.mem_port.specs.declared.engine.Progress.{Progress}
use Rattle.mem_port.specs.declared.engine.Progress.TheVariants as progress

-- An engine as contracts see it.
pub record EngineView : Type 0 where
  -- The loaded image, the number of its core, and that of all cores.
  pub image : ImageValue
  pub core : ℕ
  pub cores : ℕ
  -- How many instructions it has executed, and the state of its core behind them.
  pub executed : ℕ
  pub state : CoreState
  -- The address of the word of code that it waits for, and the access whose answer it waits for.
  pub fetch : Option ℕ
  pub access : Option Request
  -- Whether it may be clocked, and how often still.
  pub is_live : Bool
  pub clocks_left : ℕ

-- What holds of an engine before and after every clock: it fetches code, and the access that it waits for is the one that
-- its core makes next.
pub record IsSound (e : EngineView) : Type 0 where
  pub fetch_on_code : (addr : ℕ) → e.fetch ≡ Some addr → on_code e.image addr ≡ true
  pub access_next : (r : Request) → e.access ≡ Some r → request e.image e.executed e.state ≡ Some r

-- A word comes only where one is wanted, and is the word of code there.
abbrev pub FetchFits : ImageValue → Option ℕ → Option ℕ → Type 0
FetchFits image wanted None = Unit {0}
FetchFits image None (Some word) = ⊥
FetchFits image (Some addr) (Some word) = word ≡ slice_index image.code (addr / 4)

-- An answer comes only where one is wanted.
abbrev pub ReplyFits : Option Request → Option ℕ → Type 0
ReplyFits wanted None = Unit {0}
ReplyFits None (Some word) = ⊥
ReplyFits (Some r) (Some word) = Unit {0}

-- Nothing is executed.
pub record Rests (old new : EngineView) : Type 0 where
  pub executed : new.executed ≡ old.executed
  pub state : new.state ≡ old.state

-- One instruction without an access is executed.
pub record GoesOn (old new : EngineView) : Type 0 where
  pub no_stop : stop old.image old.state ≡ None
  pub no_access : request old.image old.executed old.state ≡ None
  pub executed : new.executed ≡ old.executed + 1
  pub state : new.state ≡ quiet old.image old.state

-- The access that was wanted is executed, and found this word.
pub record Finishes (word : ℕ) (old new : EngineView) : Type 0 where
  pub executed : new.executed ≡ old.executed + 1
  pub state : new.state ≡ finish old.image old.state word

-- What a clock does, by its answer to an access and by how it ends.
abbrev pub Acts : Option ℕ → Progress → EngineView → EngineView → Type 0
Acts (Some word) progress.Running old new = Finishes word old new × (new.is_live ≡ true)
Acts (Some word) (progress.Stopped why) old new = ⊥
Acts None progress.Running old new = (Rests old new ⊎ GoesOn old new) × (new.is_live ≡ true)
Acts None (progress.Stopped why) old new =
    (stop old.image old.state ≡ Some why) × (Rests old new × (new.is_live ≡ false))

-- What no call changes.
pub record KeepsEngine (old new : EngineView) : Type 0 where
  pub image : new.image ≡ old.image
  pub core : new.core ≡ old.core
  pub cores : new.cores ≡ old.cores

-- A clock. What was wanted and didn't come is wanted as before; a word of code also behind a stop.
pub record Clocks (fetched reply : Option ℕ) (result : Progress) (old new : EngineView) : Type 0 where
  pub kept : KeepsEngine old new
  pub clocks : new.clocks_left + 1 ≡ old.clocks_left
  pub acts : Acts reply result old new
  pub fetch : fetched ≡ None → (addr : ℕ) → old.fetch ≡ Some addr → new.fetch ≡ Some addr
  pub access : reply ≡ None → (r : Request) → old.access ≡ Some r → new.access ≡ Some r

-- What the end of a budget does while an access is wanted: it is given up, or was done.
abbrev pub Ends : Option ℕ → EngineView → EngineView → Type 0
Ends None old new = Rests old new
Ends (Some word) old new = Finishes word old new

-- The end of a budget.
pub record Drains (reply : Option ℕ) (old new : EngineView) : Type 0 where
  pub kept : KeepsEngine old new
  pub ends : Ends reply old new
  pub live : new.is_live ≡ false
  pub fetch : (addr : ℕ) → old.fetch ≡ Some addr → new.fetch ≡ Some addr
