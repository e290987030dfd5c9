-- An engine without a pipeline, as contracts see it.
use Rattle.std.specs.Prelude.{◌≡◌, ℕ, ◌+◌, ◌≤◌, Bool, true, false, Option, Some, None, List, [], ◌∷◌, length, map, if◌then◌else◌}
use Rattle.mips_isa.specs.declared.CoreState.{CoreState}
use Rattle.image_file.specs.Value.{ImageValue}
use Rattle.access_log.specs.declared.request.Request.{Request}
use Rattle.access_log.specs.declared.Entry.{Entry}
use Rattle.access_log.specs.Stamps.{Stamp}
use Rattle.mem_port.specs.Loaded.{on_code}
use Rattle.mem_port.specs.Engine.{EngineView, IsSound}
use Rattle.mem_port.specs.ServiceHistory.{ServiceHistory}
use Rattle.core_run.specs.declared.plain.Phase.{Phase}
use Rattle.core_run.specs.declared.plain.Phase.TheVariants.{Begin, Access, Stopped, GivenUp, FoundDone}

-- A word of code is wanted where an instruction begins that stands on the code.
abbrev pub wanted_fetch : Phase → ImageValue → CoreState → Option ℕ
wanted_fetch Begin image state = if on_code image state.dpc then Some state.dpc else None
wanted_fetch (Access r) image state = None
wanted_fetch Stopped image state = None
wanted_fetch GivenUp image state = None
wanted_fetch FoundDone image state = None

-- An answer is wanted once the word of an instruction with an access came.
abbrev pub wanted_access : Phase → Option Request
wanted_access Begin = None
wanted_access (Access r) = Some r
wanted_access Stopped = None
wanted_access GivenUp = None
wanted_access FoundDone = None

abbrev pub is_live : Phase → Bool
is_live Begin = true
is_live (Access r) = true
is_live Stopped = false
is_live GivenUp = false
is_live FoundDone = false

-- Whether the budget ended while it waited.
abbrev pub is_drained : Phase → Bool
is_drained Begin = false
is_drained (Access r) = false
is_drained Stopped = false
is_drained GivenUp = true
is_drained FoundDone = true

-- The clocks of an instruction that has begun and isn't executed.
abbrev pub under_way : Phase → ℕ
under_way Begin = 0
under_way (Access r) = 1
under_way Stopped = 1
under_way GivenUp = 1
under_way FoundDone = 0

-- The second clock of an access that was found done: it isn't made.
abbrev pub left_out : Phase → ℕ
left_out Begin = 0
left_out (Access r) = 0
left_out Stopped = 0
left_out GivenUp = 0
left_out FoundDone = 1

abbrev pub plain_view : ImageValue → ℕ → ℕ → CoreState → ℕ → Phase → ℕ → EngineView
plain_view image core cores state executed phase clocks_left = record {
  image = image;
  core = core;
  cores = cores;
  executed = executed;
  state = state;
  fetch = wanted_fetch phase image state;
  access = wanted_access phase;
  is_live = is_live phase;
  clocks_left = clocks_left;
}

-- Accesses of one core behind so many earlier ones, each with its cycle: it comes behind a cycle for each instruction
-- before, a second one for each access before, and the one of its own fetch.
abbrev pub in_own_cycles : ℕ → List Entry → List Stamp
in_own_cycles earlier [] = []
in_own_cycles earlier (entry ∷ entries) =
    record { entry = entry; cycle = entry.nth + earlier + 2 } ∷ in_own_cycles (earlier + 1) entries

-- Where no answer comes later than it could have, no want stays unmet.
pub record IsUnstalled (history : ServiceHistory) : Type 0 where
  pub unmet : history.service.unmet ≡ 0
  pub fetch_left : history.fetch_left ≤ 0
  pub access_left : history.access_left ≤ 0

-- What it tells of its times, however it was served.
pub record IsPlainHistory (history : ServiceHistory) (e : EngineView) (phase : Phase) : Type 0 where
  -- It has used a clock for each instruction, a second one for each access, one for what is under way, and those in which a
  -- want stayed unmet.
  pub clocks : history.service.clocks + left_out phase ≡ e.executed + length history.service.accesses + under_way phase
      + history.service.unmet
  pub words : history.service.words ≤ e.executed + under_way phase
  pub accesses : length history.service.accesses ≤ e.executed
  -- Where no want stayed unmet, it made each access in its cycle.
  pub cycles : history.service.unmet ≡ 0
      → history.service.accesses ≡ in_own_cycles 0 (map (λ (stamp : Stamp). stamp.entry) history.service.accesses)
  pub unstalled : history.bound ≡ Some 0 → IsUnstalled history
  pub drained : history.is_drained ≡ is_drained phase
  pub sound : IsSound e
