-- An engine that waits for the access of its first instruction and for a word of code beside it.
use Rattle.std.specs.Prelude.{◌≡◌, ℕ, Bool, true, Option, Some, None}
use Rattle.mips_isa.specs.declared.CoreState.{CoreState}
use Rattle.image_file.specs.Value.{ImageValue}
use Rattle.access_log.specs.declared.request.Request.{Request}
use Rattle.mem_port.specs.Loaded.{finish}
use Rattle.mem_port.specs.Engine.{EngineView, IsSound}

-- It has executed the instruction where it waits for no access.
abbrev pub executed_where : Option Request → ℕ
executed_where (Some r) = 0
executed_where None = 1

abbrev pub eager_view : ImageValue → ℕ → ℕ → CoreState → Option ℕ → Option Request → Bool → ℕ → EngineView
eager_view image core cores state fetch access is_live clocks_left = record {
  image = image;
  core = core;
  cores = cores;
  executed = executed_where access;
  state = state;
  fetch = fetch;
  access = access;
  is_live = is_live;
  clocks_left = clocks_left;
}

-- The state of a core behind a clock with this answer to its access.
abbrev pub state_after : ImageValue → CoreState → Option ℕ → CoreState
state_after image state None = state
state_after image state (Some old) = finish image state old

-- What is wanted still, where this came.
abbrev pub left_of : {W : Type 0} → Option W → Option ℕ → Option W
left_of want None = want
left_of want (Some word) = None

-- The engine before its first clock.
pub record IsEager (image : ImageValue) (core cores : ℕ) (e : EngineView) : Type 0 where
  pub image_is : e.image ≡ image
  pub core_is : e.core ≡ core
  pub cores_are : e.cores ≡ cores
  pub live : e.is_live ≡ true
  pub clocks : e.clocks_left ≡ 100
  pub sound : IsSound e
