-- One core's side of a memory: what a caller for that core sees of it, and what it leaves of the others.
use Rattle.std.specs.Prelude.{◌≡◌, ◌≢◌, ℕ, ◌+◌, ◌-◌, ◌*◌, ◌/◌, ◌<◌, ◌≤◌, ◌⊎◌, Bool, IsTrue, Option, Some, None, List, [], ◌++◌, slice_index}
use Rattle.image_file.specs.Value.{ImageValue}
use Rattle.access_log.specs.declared.request.Request.{Request}
use Rattle.access_log.specs.declared.Entry.{Entry}
use Rattle.access_log.specs.declared.Item.{Item}
use Rattle.mem_port.specs.declared.port.Port.{Port}
use Rattle.mem_port.specs.declared.port.Port.TheVariants.{Fetch, Access}
use Rattle.mem_port.specs.declared.port.Moved.{Moved}
use Rattle.mem_port.specs.declared.port.Moved.TheVariants as moved
use Rattle.mem_port.specs.declared.port.Withdrawal.{Withdrawal}
use Rattle.mem_port.specs.declared.port.Withdrawal.TheVariants as withdrawal
use Rattle.mem_port.specs.declared.port.PortState.{PortState}
use Rattle.mem_port.specs.declared.port.PortState.TheVariants.{Free, Asked, Waiting, Answered, Closed}
use Rattle.mem_port.specs.Ports.{core_of, IsWaiting, IsUnanswered, entries_of}
use Rattle.mem_port.specs.Memory.{MemoryView, IsLawful, Keeps, committed, steps_of_request}

-- What stays so of a port while other cores go on: a request that was served is served, whether or not it has its answer.
pub data PortPhase : Type 0 where
  Unasked : PortPhase
  Sent : Request → PortPhase
  Served : Request → PortPhase
  Shut : PortPhase

abbrev pub port_phase : PortState → PortPhase
port_phase Free = Unasked
port_phase (Asked r) = Sent r
port_phase (Waiting r) = Served r
port_phase (Answered r word) = Served r
port_phase Closed = Shut

-- There is a request, this one.
abbrev pub Holds : PortPhase → Request → Type 0
Holds Unasked r = ⊥
Holds (Sent s) r = s ≡ r
Holds (Served s) r = s ≡ r
Holds Shut r = ⊥

-- A port is as it was seen, but that one that waited may have been answered since.
abbrev pub Evolves : PortState → PortState → Type 0
Evolves old new = (new ≡ old) ⊎ ((r : Request) × ((word : ℕ) × ((old ≡ Waiting r) × (new ≡ Answered r word))))

-- One core's side of a memory.
pub record SideView : Type 0 where
  pub image : ImageValue
  pub cores : ℕ
  -- Its ports as its own calls last saw them, and how many requests may still be asked there.
  pub port : Port → PortState
  pub asks_left : Port → ℕ
  -- The entries that it has taken.
  pub taken : List Entry
  -- Whether it is told how many own steps a request that it served is away from its answer at most; how many that are,
  -- and a bound on them.
  pub tells_distances : Bool
  pub remaining_wait : Port → ℕ
  pub bound : ℕ

-- What no call changes.
pub record KeepsSide (old new : SideView) : Type 0 where
  pub image : new.image ≡ old.image
  pub cores : new.cores ≡ old.cores
  pub tells_distances : new.tells_distances ≡ old.tells_distances
  pub bound : new.bound ≡ old.bound

-- A call on a port leaves the core's other port, but for an answer that came meanwhile.
pub record LeavesPort (p : Port) (old new : SideView) : Type 0 where
  pub port : (q : Port) → q ≢ p → core_of q ≡ core_of p → Evolves (old.port q) (new.port q)
  pub asks : (q : Port) → q ≢ p → core_of q ≡ core_of p → new.asks_left q ≡ old.asks_left q
  pub remaining_wait : IsTrue old.tells_distances → (q : Port) → q ≢ p → core_of q ≡ core_of p → new.remaining_wait q ≤ old.remaining_wait q

-- A request is put on a port.
pub record SideAsks (p : Port) (r : Request) (old new : SideView) : Type 0 where
  pub kept : KeepsSide old new
  pub other : LeavesPort p old new
  pub port : new.port p ≡ Asked r
  pub asks : new.asks_left p + 1 ≡ old.asks_left p
  pub taken : new.taken ≡ old.taken

-- The request that was asked on a port is served.
pub record SideServes (p : Port) (r : Request) (old new : SideView) : Type 0 where
  pub kept : KeepsSide old new
  pub other : LeavesPort p old new
  pub port : port_phase (new.port p) ≡ Served r
  pub asks : new.asks_left p ≡ old.asks_left p
  pub taken : new.taken ≡ old.taken
  pub remaining_wait : IsTrue old.tells_distances → new.remaining_wait p ≤ old.bound

-- The ports of a core, what it may ask there and what it has taken are as they were, but for answers that came.
pub record SideStays (core : ℕ) (old new : SideView) : Type 0 where
  pub kept : KeepsSide old new
  pub ports : (q : Port) → core_of q ≡ core → Evolves (old.port q) (new.port q)
  pub asks : (q : Port) → core_of q ≡ core → new.asks_left q ≡ old.asks_left q
  pub taken : new.taken ≡ old.taken

-- A step: each remaining wait falls by one, to 0 at least, and where there was nothing to be moved nothing waits.
pub record SideSteps (result : Moved) (core : ℕ) (old new : SideView) : Type 0 where
  pub stays : SideStays core old new
  pub idle : result ≡ moved.Idle → (q : Port) → core_of q ≡ core → IsWaiting (new.port q) → ⊥
  pub remaining_wait : IsTrue old.tells_distances → (q : Port) → core_of q ≡ core → new.remaining_wait q ≤ old.remaining_wait q - 1

-- The answer to a fetch is the word of code at its address.
abbrev pub IsAnswer : ImageValue → Port → Request → ℕ → Type 0
IsAnswer image (Fetch core) r word = word ≡ slice_index image.code (r.addr / 4)
IsAnswer image (Access core) r word = Unit {0}

-- A port is left in a state, and these entries are taken.
pub record SideLeaves (p : Port) (state : PortState) (more : List Entry) (old new : SideView) : Type 0 where
  pub kept : KeepsSide old new
  pub other : LeavesPort p old new
  pub port : new.port p ≡ state
  pub asks : new.asks_left p ≡ old.asks_left p
  pub taken : new.taken ≡ old.taken ++ more

-- A request waits, and may do so for a step at least.
pub record SideWaits (p : Port) (r : Request) (old new : SideView) : Type 0 where
  pub stays : SideStays (core_of p) old new
  pub port : new.port p ≡ Waiting r
  pub some_left : IsTrue old.tells_distances → 1 ≤ old.remaining_wait p
  pub remaining_wait : IsTrue old.tells_distances → (q : Port) → core_of q ≡ core_of p → new.remaining_wait q ≤ old.remaining_wait q

-- An answer is taken, or the request waits.
abbrev pub SideTakes : Option ℕ → Port → Request → SideView → SideView → Type 0
SideTakes None p r old new = SideWaits p r old new
SideTakes (Some word) p r old new =
    IsAnswer old.image p r word × (SideLeaves p Free (entries_of p r word) old new × Evolves (old.port p) (Answered r word))

-- A port is closed: its request was not done, or was and is taken so.
abbrev pub SideWithdraws : Withdrawal → Port → Request → SideView → SideView → Type 0
SideWithdraws withdrawal.Withdrawn p r old new = SideLeaves p Closed [] old new × IsUnanswered (old.port p)
SideWithdraws (withdrawal.Answered word) p r old new =
    SideLeaves p Closed (entries_of p r word) old new × Evolves (old.port p) (Answered r word)

-- How many steps can be made at most, if this core alone asks.
abbrev pub potential : ℕ → MemoryView → ℕ
potential core m = m.load + steps_of_request m * (m.asks_left (Fetch core) + m.asks_left (Access core))

-- What calls for a core leave of a memory and of its other cores.
pub record LeavesOthers (core : ℕ) (old new : MemoryView) : Type 0 where
  pub kept : Keeps old new
  pub history : (more : List Item) × (new.history ≡ old.history ++ more)
  pub ports : (q : Port) → core_of q ≢ core → Evolves (old.port q) (new.port q)
  pub asks : (q : Port) → core_of q ≢ core → new.asks_left q ≡ old.asks_left q
  pub taken : (other : ℕ) → other ≢ core → committed new other ≡ committed old other
  pub distances : IsTrue old.tells_distances → (q : Port) → core_of q ≢ core → IsWaiting (new.port q) → new.distance q ≤ old.distance q
  pub load : IsTrue old.tells_load → potential core new ≤ potential core old

-- So many steps that moved something were made for a core, where the load is told: they are paid by what it asked.
abbrev pub Paid : ℕ → ℕ → MemoryView → MemoryView → Type 0
Paid core steps old new = IsTrue old.tells_load → potential core new + steps ≤ potential core old

-- How many steps moved something: one or none.
abbrev pub steps_in : Moved → ℕ
steps_in moved.Moved = 1
steps_in moved.Idle = 0

-- How many own steps a request on a port is away from its answer at most: none, where it doesn't wait.
abbrev pub remaining_wait_of : PortState → ℕ → ℕ
remaining_wait_of Free distance = 0
remaining_wait_of (Asked r) distance = 0
remaining_wait_of (Waiting r) distance = distance
remaining_wait_of (Answered r word) distance = 0
remaining_wait_of Closed distance = 0

-- One core's side of a memory that it has for itself.
abbrev pub side_of : MemoryView → ℕ → SideView
side_of m core = record {
  image = m.image;
  cores = m.cores;
  port = m.port;
  asks_left = m.asks_left;
  taken = committed m core;
  tells_distances = m.tells_distances;
  remaining_wait = λ q. remaining_wait_of (m.port q) (m.distance q);
  bound = m.bound;
}

-- A memory serves each of its cores.
pub record ServesCore (m : MemoryView) (core : ℕ) : Type 0 where
  pub lawful : IsLawful m
  pub within : core < m.cores
