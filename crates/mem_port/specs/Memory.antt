-- The law of a memory that serves several cores.
use Rattle.std.specs.Prelude.{◌≡◌, ◌≢◌, ℕ, ◌+◌, ◌*◌, ◌<◌, ◌≤◌, ◌⊎◌, Bool, true, false, IsTrue, Option, Some, None, List, [], ◌∷◌, ◌++◌}
use Rattle.std.specs.List.{AllByRecursion}
use Rattle.image_file.specs.Value.{ImageValue, IsGood, start_memory, code_lines}
use Rattle.access_log.specs.Items.{transactions, after_items, IsLegal, own_items}
use Rattle.access_log.specs.declared.request.Request.{Request}
use Rattle.access_log.specs.declared.Entry.{Entry}
use Rattle.access_log.specs.declared.Transaction.{Transaction}
use Rattle.access_log.specs.declared.Item.{Item}
use Rattle.access_log.specs.declared.Item.TheVariants.{Bus}
use Rattle.letters.specs.Caches.{Caches}
use Rattle.letters.specs.Fold.{Follows}
use Rattle.mem_port.specs.declared.port.Port.{Port}
use Rattle.mem_port.specs.declared.port.Port.TheVariants.{Fetch, Access}
use Rattle.mem_port.specs.declared.port.Moved.{Moved}
use Rattle.mem_port.specs.declared.port.Moved.TheVariants as moved
use Rattle.mem_port.specs.declared.port.Withdrawal.{Withdrawal}
use Rattle.mem_port.specs.declared.port.Withdrawal.TheVariants as withdrawal
use Rattle.mem_port.specs.declared.port.PortState.{PortState}
use Rattle.mem_port.specs.declared.port.PortState.TheVariants.{Free, Asked, Waiting, Answered, Closed}
use Rattle.mem_port.specs.Ports.{core_of, IsWaiting, IsUnanswered, HoldsProper, HoldsCode, HoldsEntry, taken_of, items_of}

-- A memory as contracts see it.
pub record MemoryView : Type 0 where
  -- What it was made with: the loaded image, the number of cores, and the caches between them and it, where there are any.
  pub image : ImageValue
  pub cores : ℕ
  pub caches : Option Caches
  -- What was done, the oldest first.
  pub history : List Item
  -- What is on each port, and how many requests may still be asked there.
  pub port : Port → PortState
  pub asks_left : Port → ℕ
  -- Whether there is something that a step moves.
  pub is_busy : Bool
  -- Whether it tells how many steps a waiting request is away from its answer at most; how many that are, and a bound on them.
  pub tells_distances : Bool
  pub distance : Port → ℕ
  pub bound : ℕ
  -- Whether it tells how many steps can be made at most before it is idle, if nothing more is asked; and how many that are.
  pub tells_load : Bool
  pub load : ℕ

-- Each transaction was of a line of memory.
abbrev pub AreOnLines : ImageValue → List Item → Type 0
AreOnLines image items = AllByRecursion (λ (bus : Transaction). bus.line < image.memory_lines) (transactions items)

-- The entries that a core has taken.
abbrev pub committed : MemoryView → ℕ → List Entry
committed m core = taken_of (m.port (Access core)) (own_items m.history core)

-- What holds of a memory before and after every call.
pub record IsLawful (m : MemoryView) : Type 0 where
  pub good : IsGood m.image
  -- Each access has found what the accesses before it left.
  pub legal : IsLegal (start_memory m.image) m.history
  -- The caches were good for each access, and each transaction was one that they needed.
  pub follows : Follows m.caches m.cores (code_lines m.image) m.history
  pub lines : AreOnLines m.image m.history
  -- Only its cores made accesses.
  pub within : (core : ℕ) → m.cores ≤ core → own_items m.history core ≡ []
  -- What is on a port may be asked there.
  pub proper : (q : Port) → HoldsProper m.image q (m.port q)
  -- An answer is the word of code, or what the last entry of the core found.
  pub fetched : (core : ℕ) → HoldsCode m.image (m.port (Fetch core))
  pub served : (core : ℕ) → HoldsEntry core (own_items m.history core) (m.port (Access core))
  -- While a request waits, there is something to be moved.
  pub waiting : (q : Port) → IsWaiting (m.port q) → m.is_busy ≡ true
  -- A waiting request has at least one step to go, and at most the bound.
  pub near : IsTrue m.tells_distances → (q : Port) → IsWaiting (m.port q) → (1 ≤ m.distance q) × (m.distance q ≤ m.bound)
  -- Where no port has a request, and none is closed, there is no load.
  pub unloaded : IsTrue m.tells_load → ((q : Port) → m.port q ≡ Free) → m.load ≡ 0

-- A memory before its first call.
pub record IsFresh (image : ImageValue) (cores asks : ℕ) (caches : Option Caches) (m : MemoryView) : Type 0 where
  pub lawful : IsLawful m
  pub image_is : m.image ≡ image
  pub cores_are : m.cores ≡ cores
  pub caches_are : m.caches ≡ caches
  pub history : m.history ≡ []
  pub ports : (q : Port) → m.port q ≡ Free
  pub asks_left : (q : Port) → core_of q < cores → m.asks_left q ≡ asks
  -- There is nothing to be moved.
  pub idle : m.is_busy ≡ false

-- It answers every request as it is served.
pub record IsAtOnce (m : MemoryView) : Type 0 where
  pub told : m.tells_distances ≡ true
  pub bound : m.bound ≡ 0

-- What no call changes.
pub record Keeps (old new : MemoryView) : Type 0 where
  pub image : new.image ≡ old.image
  pub cores : new.cores ≡ old.cores
  pub caches : new.caches ≡ old.caches
  pub tells_distances : new.tells_distances ≡ old.tells_distances
  pub bound : new.bound ≡ old.bound
  pub tells_load : new.tells_load ≡ old.tells_load

-- A call on a port leaves all others as they were, and no nearer request is put off.
pub record LeavesPorts (p : Port) (old new : MemoryView) : Type 0 where
  pub ports : (q : Port) → q ≢ p → new.port q ≡ old.port q
  pub asks : (q : Port) → q ≢ p → new.asks_left q ≡ old.asks_left q
  pub distances : IsTrue old.tells_distances → (q : Port) → q ≢ p → IsWaiting (old.port q) → new.distance q ≤ old.distance q

-- The most steps that one request can need: four for each core, and three.
abbrev pub steps_of_request : MemoryView → ℕ
steps_of_request m = 4 * m.cores + 3

-- A request is put on a port.
pub record Asks (p : Port) (r : Request) (old new : MemoryView) : Type 0 where
  pub kept : Keeps old new
  pub others : LeavesPorts p old new
  pub port : new.port p ≡ Asked r
  pub asks : new.asks_left p + 1 ≡ old.asks_left p
  pub history : new.history ≡ old.history
  pub busy : new.is_busy ≡ old.is_busy
  pub load : IsTrue old.tells_load → new.load ≤ old.load + steps_of_request old

-- What becomes of a request as it is served: it waits and nothing is done, or it is answered and an access has its entry.
abbrev pub Begins : Port → Request → MemoryView → MemoryView → Type 0
Begins p r old new =
    ((new.port p ≡ Waiting r) × (new.history ≡ old.history))
    ⊎ ((word : ℕ) × (new.port p ≡ Answered r word) × (new.history ≡ old.history ++ items_of p r word))

-- The request that was asked on a port is served.
pub record Serves (p : Port) (r : Request) (old new : MemoryView) : Type 0 where
  pub kept : Keeps old new
  pub others : LeavesPorts p old new
  pub asks : new.asks_left p ≡ old.asks_left p
  pub outcome : Begins p r old new
  -- Something is to be moved only where something was before, or the request waits.
  pub busy : IsTrue new.is_busy → IsTrue old.is_busy ⊎ (new.port p ≡ Waiting r)
  pub load : IsTrue old.tells_load → new.load ≤ old.load

-- At most one transaction.
abbrev pub bus_items : Option Transaction → List Item
bus_items None = []
bus_items (Some transaction) = Bus transaction ∷ []

-- A request that waited is answered, behind a transaction or without one.
pub record Answers (p : Port) (r : Request) (word : ℕ) (bus : Option Transaction) (old new : MemoryView) : Type 0 where
  pub was : old.port p ≡ Waiting r
  pub is : new.port p ≡ Answered r word
  pub others : (q : Port) → q ≢ p → new.port q ≡ old.port q
  pub history : new.history ≡ (old.history ++ bus_items bus) ++ items_of p r word

-- No port changes, and there is at most a transaction more.
pub record MovesBus (bus : Option Transaction) (old new : MemoryView) : Type 0 where
  pub ports : (q : Port) → new.port q ≡ old.port q
  pub history : new.history ≡ old.history ++ bus_items bus

-- A step moves something: every waiting request comes nearer, and at most one is answered.
pub record Moves (old new : MemoryView) : Type 0 where
  pub kept : Keeps old new
  pub was_busy : old.is_busy ≡ true
  pub asks : (q : Port) → new.asks_left q ≡ old.asks_left q
  pub outcome : ((bus : Option Transaction) × MovesBus bus old new)
      ⊎ ((p : Port) × ((r : Request) × ((word : ℕ) × ((bus : Option Transaction) × Answers p r word bus old new))))
  pub distances : IsTrue old.tells_distances → (q : Port) → IsWaiting (new.port q) → new.distance q + 1 ≤ old.distance q
  pub load : IsTrue old.tells_load → new.load + 1 ≤ old.load

-- Nothing changed that can be seen.
pub record Same (old new : MemoryView) : Type 0 where
  pub kept : Keeps old new
  pub history : new.history ≡ old.history
  pub ports : (q : Port) → new.port q ≡ old.port q
  pub asks : (q : Port) → new.asks_left q ≡ old.asks_left q
  pub busy : new.is_busy ≡ old.is_busy
  pub distances : (q : Port) → new.distance q ≡ old.distance q
  pub load : new.load ≡ old.load

-- A step moves something, or there was nothing to be moved.
abbrev pub Steps : Moved → MemoryView → MemoryView → Type 0
Steps moved.Moved old new = Moves old new
Steps moved.Idle old new = (old.is_busy ≡ false) × Same old new

-- A port is left in a state, and nothing is done.
pub record Leaves (p : Port) (state : PortState) (old new : MemoryView) : Type 0 where
  pub kept : Keeps old new
  pub others : LeavesPorts p old new
  pub port : new.port p ≡ state
  pub asks : new.asks_left p ≡ old.asks_left p
  pub history : new.history ≡ old.history
  pub busy : IsTrue new.is_busy → IsTrue old.is_busy
  pub load : IsTrue old.tells_load → new.load ≤ old.load

-- The answer that is on a port.
abbrev pub HasAnswer : Port → ℕ → MemoryView → Type 0
HasAnswer p word m = (r : Request) × (m.port p ≡ Answered r word)

-- The answer is taken and its port is free, or the request waits.
abbrev pub Takes : Option ℕ → Port → MemoryView → MemoryView → Type 0
Takes None p old new = IsWaiting (old.port p) × Same old new
Takes (Some word) p old new = HasAnswer p word old × Leaves p Free old new

-- The port is closed; what its request was answered is told.
abbrev pub Withdraws : Withdrawal → Port → MemoryView → MemoryView → Type 0
Withdraws withdrawal.Withdrawn p old new = IsUnanswered (old.port p) × Leaves p Closed old new
Withdraws (withdrawal.Answered word) p old new = HasAnswer p word old × Leaves p Closed old new

-- What is left at the end: the memory that the accesses left, and the history with at most the one transaction that was on.
pub record Settles (m : MemoryView) (words : List ℕ) (items : List Item) : Type 0 where
  pub memory : words ≡ after_items (start_memory m.image) m.history
  pub history : (bus : Option Transaction) × (items ≡ m.history ++ bus_items bus)
  pub follows : Follows m.caches m.cores (code_lines m.image) items
  pub lines : AreOnLines m.image items
