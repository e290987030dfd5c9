-- The slots of cores: what the turn of one core leaves of another's, and what they are at the start.
use Rattle.std.proofs.Common.{◌≡◌, ◌≢◌, ℕ, ◌<◌, ◌≤◌, inl, inr, Bool, true, false, IsTrue, Some, None, refl, sym, ◌∙◌, arith}
use Rattle.std.specs.Prelude.{Option}
use Rattle.timetable.specs.declared.End.{End}
use Rattle.mem_port.specs.declared.port.Port.{Port}
use Rattle.mem_port.specs.declared.port.Port.TheVariants.{Fetch, Access}
use Rattle.mem_port.specs.declared.port.PortState.{PortState}
use Rattle.mem_port.specs.declared.port.PortState.TheVariants.{Free, Asked, Waiting, Answered, Closed}
use Rattle.mem_port.specs.Ports.{core_of, IsWaiting}
use Rattle.mem_port.specs.Memory.{MemoryView, IsFresh}
use Rattle.mem_port.specs.Engine.{EngineView}
use Rattle.mem_port.specs.ServiceHistory.{ServiceHistory}
use Rattle.mem_port.specs.Side.{Evolves, port_phase, LeavesOthers, remaining_wait_of, side_of}
use Rattle.mem_port.proofs.SideLaws.{port_phase-evolves}
use Rattle.core_run.specs.declared.lane.Lane.{Lane}
use Rattle.core_run.specs.Cycle.{wait_left}
use Rattle.core_run.specs.Lanes.{IsCoupled, IsFinished, IsNoTighter}
use Rattle.core_run.specs.Running.{IsOnOrOver, IsServedAt}
use Rattle.core_run.specs.Outcomes.{IsStartSlot}
use Rattle.core_run.specs.Serial.{IsSlotOf}
use Rattle.core_run.proofs.StartLaws.{fresh-unused, start-on}

-- While other cores go on, no request is put off.
remaining_wait-kept : (old new : PortState) (distance later : ℕ) → Evolves old new → (IsWaiting new → later ≤ distance)
    → remaining_wait_of new later ≤ remaining_wait_of old distance
remaining_wait-kept old Free distance later h less = omega arith
remaining_wait-kept old (Asked r) distance later h less = omega arith
remaining_wait-kept old (Waiting r) distance later (inl same) less = rw (sym same) (less tt)
remaining_wait-kept old (Waiting r) distance later (inr h) less = (let is = h.1.1.1 in cc)
remaining_wait-kept old (Answered r word) distance later h less = omega arith
remaining_wait-kept old Closed distance later h less = omega arith

left-kept : (is_open : Bool) (remaining_wait later bound bounds left : ℕ) → later ≤ remaining_wait → bounds ≡ bound
    → wait_left is_open remaining_wait bound ≤ left → wait_left is_open later bounds ≤ left
left-kept true remaining_wait later bound bounds left less same h = omega arith
left-kept false remaining_wait later bound bounds left less same h = omega arith

-- The turn of a core leaves what holds of another's slot.
module _ (turn : ℕ) (old new : MemoryView) (left : LeavesOthers turn old new) where
  port_phase-kept : (core : ℕ) (q : Port) → core ≢ turn → core_of q ≡ core → port_phase (new.port q) ≡ port_phase (old.port q)
  port_phase-kept core q ne is = port_phase-evolves (old.port q) (new.port q) (left.ports q (λ e. ne (sym is ∙ e)))

  coupled-kept : (e : EngineView) (lane : Lane) → lane.core ≢ turn → IsCoupled e (side_of old lane.core) lane
      → IsCoupled e (side_of new lane.core) lane
  coupled-kept e lane ne h = record {
    core = h.core;
    image = h.image ∙ sym left.kept.image;
    cores = h.cores ∙ sym left.kept.cores;
    sound = h.sound;
    fetch = rw (port_phase-kept lane.core (Fetch lane.core) ne refl) h.fetch;
    access = rw (port_phase-kept lane.core (Access lane.core) ne refl) h.access;
  }

  finished-kept : (e : EngineView) (core : ℕ) → core ≢ turn → IsFinished e (side_of old core) core → IsFinished e (side_of new core) core
  finished-kept e core ne h = record {
    core_is = h.core_is;
    image = h.image ∙ sym left.kept.image;
    cores = h.cores ∙ sym left.kept.cores;
    fetch = rw (port_phase-kept core (Fetch core) ne refl) h.fetch;
    access = rw (port_phase-kept core (Access core) ne refl) h.access;
  }

  holds-kept : (end : Option End) (budget : ℕ) (e : EngineView) (lane : Lane) (cycles : ℕ) → lane.core ≢ turn
      → IsOnOrOver end budget (side_of old lane.core) e lane cycles → IsOnOrOver end budget (side_of new lane.core) e lane cycles
  holds-kept None budget e lane cycles ne h = record {
    coupled = coupled-kept e lane ne h.coupled;
    runs = rw (left.taken lane.core ne) h.runs;
    live = h.live;
    more = h.more;
    clocks = h.clocks;
    fetches = rw (left.asks (Fetch lane.core) ne) h.fetches;
    accesses = rw (left.asks (Access lane.core) ne) h.accesses;
  }
  holds-kept (Some end) budget e lane cycles ne h =
      record { finished = finished-kept e lane.core ne h.finished; runs = rw (left.taken lane.core ne) h.runs; fits = h.fits }

  pub slot-kept : (core budget : ℕ) (e : EngineView) (lane : Lane) (end : Option End) (cycles : ℕ) → core ≢ turn
      → IsSlotOf core budget old e lane end cycles → IsSlotOf core budget new e lane end cycles
  slot-kept core budget e lane end cycles ne h =
      record { lane_is = h.lane_is; holds = holds-kept end budget e lane cycles (λ is. ne (sym h.lane_is ∙ is)) h.holds }

  remaining_wait-left : (told : IsTrue old.tells_distances) (q : Port) → core_of q ≢ turn
      → remaining_wait_of (new.port q) (new.distance q) ≤ remaining_wait_of (old.port q) (old.distance q)
  remaining_wait-left told q ne =
      remaining_wait-kept (old.port q) (new.port q) (old.distance q) (new.distance q) (left.ports q ne) (left.distances told q ne)

  tight-kept : (history : ServiceHistory) (lane : Lane) → lane.core ≢ turn → IsNoTighter history (side_of old lane.core) lane
      → IsNoTighter history (side_of new lane.core) lane
  tight-kept history lane ne h =
      let was = λ (told : IsTrue new.tells_distances). sym left.kept.tells_distances ∙ told in
      record {
        bound = rw (left.kept.tells_distances, left.kept.bound) h.bound;
        fetch = λ told. left-kept lane.open_fetch _ _ old.bound _ history.fetch_left (remaining_wait-left (was told) (Fetch lane.core) ne)
            left.kept.bound (h.fetch (was told));
        access = λ told. left-kept lane.open_access _ _ old.bound _ history.access_left
            (remaining_wait-left (was told) (Access lane.core) ne) left.kept.bound (h.access (was told));
      }

  -- And how its engine was served.
  pub served-kept : {E : Type 0} (view : E → EngineView) (times : ServiceHistory → E → Type 0) (engine : E) (lane : Lane) (end : Option End)
      (cycles : ℕ) (history : ServiceHistory) → lane.core ≢ turn
      → IsServedAt view times (side_of old lane.core) engine lane end cycles history
      → IsServedAt view times (side_of new lane.core) engine lane end cycles history
  served-kept view times engine lane end cycles history ne h = record {
    tells = h.tells;
    clocks = h.clocks;
    accesses = rw (left.taken lane.core ne) h.accesses;
    bound = rw (left.kept.tells_distances, left.kept.bound) h.bound;
    live = h.live;
    stopped = h.stopped;
    tight = λ none. tight-kept history lane ne (h.tight none);
    at_once = h.at_once;
  }

-- The slot of a core of a memory before its first turn.
pub start-slot : (core budget : ℕ) (m : MemoryView) (e : EngineView) (lane : Lane) (end : Option End) (cycles : ℕ) → 1 ≤ budget
    → core < m.cores
    → IsFresh m.image m.cores budget m.caches m → IsStartSlot m.image core m.cores budget e lane end cycles
    → IsSlotOf core budget m e lane end cycles
start-slot core budget m e lane end cycles some within fresh h =
    let unused = fresh-unused m lane.core budget (rw h.lane_is within) fresh in
    record {
      lane_is = h.lane_is;
      holds = rw (h.no_end, h.no_cycle)
          (start-on m.image core m.cores budget (side_of m lane.core) e lane end cycles some unused refl refl h);
    }
