-- A core before its first cycle.
use Rattle.std.proofs.Common.{◌≡◌, ℕ, ◌<◌, ◌≤◌, Bool, true, false, Some, None, [], refl, ap, sym, ◌∙◌, arith}
use Rattle.std.specs.Prelude.{Option, if◌then◌else◌}
use Rattle.image_file.specs.Value.{ImageValue, memory_bytes, start_state}
use Rattle.access_log.proofs.AloneLaws.{comes-start}
use Rattle.timetable.specs.declared.End.{End}
use Rattle.mem_port.specs.declared.port.Port.TheVariants.{Fetch, Access}
use Rattle.mem_port.specs.Memory.{MemoryView, IsFresh}
use Rattle.mem_port.specs.Engine.{EngineView}
use Rattle.mem_port.specs.ServiceHistory.{ServiceHistory, IsFirstHistory, IsLeft, no_service}
use Rattle.mem_port.specs.Side.{SideView, port_phase, side_of}
use Rattle.core_run.specs.declared.lane.Lane.{Lane}
use Rattle.core_run.specs.Lanes.{HasCome, IsStarted, bound_of}
use Rattle.core_run.specs.Running.{IsOn, IsServedAt, IsUnused}
use Rattle.core_run.specs.Outcomes.{IsStartSlot}

-- The side of a core of a memory before its first call.
pub fresh-unused : (m : MemoryView) (core asks : ℕ) → core < m.cores → IsFresh m.image m.cores asks m.caches m
    → IsUnused asks core (side_of m core)
fresh-unused m core asks within fresh = record {
  fetch = fresh.ports (Fetch core);
  access = fresh.ports (Access core);
  fetches = fresh.asks_left (Fetch core) within;
  accesses = fresh.asks_left (Access core) within;
  taken = rw (fresh.ports (Access core), fresh.history) refl;
}

-- An engine at its start has executed nothing.
runs-start : (image : ImageValue) (core cores : ℕ) (e : EngineView) → IsStarted image core cores e → HasCome e []
runs-start image core cores e h =
    record {
      comes = rw (h.executed, h.state, h.core_is, h.cores_are)
          (comes-start e.image.code (memory_bytes e.image) (start_state e.image core cores));
    }

-- The history at which an engine on a side is served before its first cycle.
abbrev pub first_history : SideView → ServiceHistory
first_history s =
    record { service = no_service; bound = bound_of s; fetch_left = s.bound; access_left = s.bound; is_drained = false }

left-first : (told : Bool) (bound : ℕ) → IsLeft {W = ℕ} (if told then Some bound else None) None None 0 bound
left-first true bound = omega arith
left-first false bound = tt

pub first-history : (s : SideView) → IsFirstHistory (first_history s)
first-history s = record {
  service = refl;
  fetch = left-first s.tells_distances s.bound;
  access = left-first s.tells_distances s.bound;
  drained = refl;
}

-- The slot of a core before its first cycle, on its side before the first call.
module _ (image : ImageValue) (core cores budget : ℕ) (s : SideView) where
  pub start-on : (e : EngineView) (lane : Lane) (end : Option End) (cycles : ℕ) → 1 ≤ budget → IsUnused budget lane.core s
      → s.image ≡ image → s.cores ≡ cores → IsStartSlot image core cores budget e lane end cycles → IsOn budget s e lane 0
  start-on e lane end cycles some unused same_image same_cores h = record {
    coupled = record {
      core = h.engine.core_is ∙ sym h.lane_is;
      image = h.engine.image_is ∙ sym same_image;
      cores = h.engine.cores_are ∙ sym same_cores;
      sound = h.engine.sound;
      fetch = rw h.closed.fetch (ap port_phase unused.fetch);
      access = rw h.closed.access (ap port_phase unused.access);
    };
    runs = rw unused.taken (runs-start image core cores e h.engine);
    live = h.engine.live;
    more = some;
    clocks = let left = h.clocks in omega arith;
    fetches = rw unused.fetches (omega arith);
    accesses = rw unused.accesses (omega arith);
  }

  pub start-served : {E : Type 0} (view : E → EngineView) (times : ServiceHistory → E → Type 0) (engine : E) (lane : Lane)
      (end : Option End) (cycles : ℕ) → IsUnused budget lane.core s → IsStartSlot image core cores budget (view engine) lane end cycles
      → times (first_history s) engine → IsServedAt view times s engine lane end cycles (first_history s)
  start-served view times engine lane end cycles unused h tells = record {
    tells = tells;
    clocks = sym h.no_cycle;
    accesses = sym unused.taken;
    bound = refl;
    live = rw h.no_end h.engine.live;
    stopped = λ dead. refl;
    tight = λ none. record {
      bound = refl;
      fetch = λ told. rw h.closed.fetch (omega arith);
      access = λ told. rw h.closed.access (omega arith);
    };
    at_once = λ once. (h.closed, refl);
  }
