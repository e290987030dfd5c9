-- The slots of cores before their first cycles, and what a run of them leaves, whatever the order of their cycles.
use Rattle.std.specs.Prelude.{◌≡◌, ℕ, ◌<◌, ◌≤◌, ◌&&◌, not, false, Option, Some, None, List, length, slice_get, map}
use Rattle.std.specs.List.{AllByRecursion}
use Rattle.kmp_base.specs.declared.setup.MachineKind.{MachineKind}
use Rattle.kmp_base.specs.declared.setup.MachineKind.TheVariants.{Plain, Pipe, Full}
use Rattle.image_file.specs.Value.{ImageValue, code_lines, start_memory, start_states}
use Rattle.access_log.specs.Items.{entries}
use Rattle.access_log.specs.Replay.{own, replay}
use Rattle.access_log.specs.Stamps.{Stamp}
use Rattle.letters.specs.Caches.{Caches}
use Rattle.letters.specs.Fold.{Follows}
use Rattle.timetable.specs.declared.End.{End}
use Rattle.timetable.specs.declared.CoreEnd.{CoreEnd}
use Rattle.timetable.specs.declared.rows.TimeRow.{TimeRow}
use Rattle.timetable.specs.Outcome.{OutcomeValue, final_of}
use Rattle.mem_port.specs.Loaded.{stop}
use Rattle.mem_port.specs.Memory.{MemoryView, AreOnLines, IsAtOnce}
use Rattle.mem_port.specs.Engine.{EngineView}
use Rattle.mem_port.specs.ServiceHistory.{ServiceHistory}
use Rattle.mem_port.specs.Side.{side_of}
use Rattle.core_run.specs.declared.lane.Lane.{Lane}
use Rattle.core_run.specs.declared.serial.CoreSlot.{CoreSlot}
use Rattle.core_run.specs.Lanes.{IsStarted, IsClosed, bound_of}
use Rattle.core_run.specs.Running.{EndFits, goes_on}

-- The slot of a core before its first cycle.
pub record IsStartSlot (image : ImageValue) (core cores budget : ℕ) (e : EngineView) (lane : Lane) (end : Option End) (cycles : ℕ) : Type 0
  where
    pub engine : IsStarted image core cores e
    pub clocks : budget ≤ e.clocks_left
    pub lane_is : lane.core ≡ core
    pub closed : IsClosed lane
    pub no_end : end ≡ None
    pub no_cycle : cycles ≡ 0

-- Each slot is that of its core before its first cycle.
abbrev pub AreFirst : {E : Type 0} → (E → EngineView) → ImageValue → ℕ → ℕ → List (CoreSlot E) → Type 0
AreFirst {E} view image cores budget slots = (core : ℕ) (s : CoreSlot E) → slice_get slots core ≡ Some s
    → IsStartSlot image core cores budget (view s.engine) s.lane s.end s.cycles

-- What a run leaves of a memory with these caches or none: the sequential machine, stepped by the accesses in their order,
-- comes to exactly these cores and this memory, and each core has ended.
pub record IsRun (image : ImageValue) (cores budget : ℕ) (caches : Option Caches) (outcome : OutcomeValue) : Type 0 where
  pub count : length outcome.cores ≡ cores
  pub within : AllByRecursion (λ entry. entry.core < cores) (entries outcome.items)
  pub words : length outcome.words ≡ length (start_memory image)
  pub replays : replay image.code (start_memory image) (start_states image cores) (entries outcome.items)
      (map (λ (ended : CoreEnd). ended.retired) outcome.cores)
      ≡ Some (record { code = image.code; cores = map final_of outcome.cores; memory = outcome.words })
  pub follows : Follows caches cores (code_lines image) outcome.items
  pub lines : AreOnLines image outcome.items
  pub ends : (core : ℕ) (ended : CoreEnd) → slice_get outcome.cores core ≡ Some ended
      → EndFits ended.end budget ended.cycles (stop image ended.state)

-- The engine of a core that ended so, which was served by this history: it had a clock in each cycle of its core.
pub record IsEngineOf (image : ImageValue) (core cores : ℕ) (bound : Option ℕ) (ended : CoreEnd) (history : ServiceHistory)
    (e : EngineView) : Type 0 where
  pub image_is : e.image ≡ image
  pub core_is : e.core ≡ core
  pub cores_are : e.cores ≡ cores
  pub retired : e.executed ≡ ended.retired
  pub state : e.state ≡ ended.state
  pub live : e.is_live ≡ (goes_on (Some ended.end) && not history.is_drained)
  pub stopped : goes_on (Some ended.end) ≡ false → history.is_drained ≡ false
  pub clocks : history.service.clocks ≡ ended.cycles
  pub bound_is : history.bound ≡ bound

-- The end that a core's engine, with its rows, and its slot tell.
pub record IsEndOf (e : EngineView) (rows : List TimeRow) (end : Option End) (cycles : ℕ) (ended : CoreEnd) : Type 0 where
  pub ends : end ≡ Some ended.end
  pub took : ended.cycles ≡ cycles
  pub retired : e.executed ≡ ended.retired
  pub state : e.state ≡ ended.state
  pub rows_are : ended.rows.rows ≡ rows

-- Each core ended with an engine that left these rows and was served by its history, and its accesses are those of the history.
abbrev pub EndsServed : {E : Type 0} → (E → EngineView) → (E → List TimeRow) → (ServiceHistory → E → Type 0) → MemoryView → OutcomeValue
    → (ℕ → ServiceHistory) → Type 0
EndsServed {E} view rows times m outcome histories = (core : ℕ) (ended : CoreEnd) → slice_get outcome.cores core ≡ Some ended
    → (e : E) × (IsEngineOf m.image core m.cores (bound_of (side_of m core)) ended (histories core) (view e)
    × ((ended.rows.rows ≡ rows e) × (times (histories core) e
    × (map (λ (stamp : Stamp). stamp.entry) (histories core).service.accesses ≡ own (entries outcome.items) core))))

-- No core's budget ended while it waited.
abbrev pub NoneWaited : ℕ → (ℕ → ServiceHistory) → Type 0
NoneWaited cores histories = (core : ℕ) → core < cores → (histories core).is_drained ≡ false

-- A memory over which a machine has its cores with five stages: flat memory answers each request as it is served, and over caches a
-- request may wait.
abbrev pub IsPipedMemory : MachineKind → MemoryView → Type 0
IsPipedMemory Plain m = ⊥
IsPipedMemory Pipe m = IsAtOnce m
IsPipedMemory Full m = Unit {0}
