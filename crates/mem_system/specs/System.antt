-- The memory of several cores: caches with their bus, the ports in front of them, and the queue of those that wait.
use Rattle.std.specs.Prelude.{◌≡◌, ℕ, ◌+◌, ◌-◌, ◌*◌, ◌/◌, ◌≤◌, Bool, true, false, not, ◌==◌, Option}
use Rattle.std.specs.Prelude.{Some, None, List, [], ◌∷◌, ◌++◌, length, filter, get_or}
use Rattle.std.specs.List.{count_by}
use Rattle.mips_isa.specs.Kinds.{stores}
use Rattle.image_file.specs.Value.{ImageValue, start_memory}
use Rattle.access_log.specs.declared.request.Request.{Request}
use Rattle.access_log.specs.declared.Transaction.{Transaction}
use Rattle.access_log.specs.declared.Item.{Item}
use Rattle.access_log.specs.Items.{after_items}
use Rattle.moesi_master.specs.declared.Phase.TheVariants.{Off}
use Rattle.moesi_master.specs.Moesi.{suffices}
use Rattle.letters.specs.Caches.{Caches}
use Rattle.letters.specs.Fold.{no_letters, letters_after}
use Rattle.coherence.specs.Coherence.{main_after}
use Rattle.mem_port.specs.declared.port.Port.{Port}
use Rattle.mem_port.specs.declared.port.PortState.{PortState}
use Rattle.mem_port.specs.declared.port.PortState.TheVariants.{Free, Asked, Waiting, Answered, Closed}
use Rattle.mem_port.specs.declared.cell.Cell.{Cell}
use Rattle.mem_port.specs.Calls.{Call, Ask, Serve, Step, Take, Withdraw, Obeys}
use Rattle.mem_port.specs.Flat.{index_of, no_cell, cell_at, pending}
use Rattle.mem_port.specs.Memory.{MemoryView, Answers, bus_items}
use Rattle.cache_bus.specs.Caches.{caches_of}
use Rattle.cache_bus.specs.View.{CacheBusView, port_of, slave_in, serves_now}
use Rattle.cache_bus.specs.Calls.{Keeps, StillFollows}
use Rattle.moesi_slave.specs.declared.SlavePhase.TheVariants.{Fresh}

-- The caches with their bus, the cells of the ports, and the caches whose requests wait, the first one first.
pub record SystemView : Type 0 where
  pub bus : CacheBusView
  pub cells : List Cell
  pub queue : List ℕ

-- A memory of such parts.
abbrev pub seen : CacheBusView → List Cell → List ℕ → SystemView
seen bus cells queue = record { bus = bus; cells = cells; queue = queue }

-- What the law of memory sees of it. No distances are told, and no load.
abbrev pub system : SystemView → MemoryView
system s = record {
  image = s.bus.image;
  cores = s.bus.cores;
  caches = Some (caches_of s.bus.sets);
  history = s.bus.items;
  port = λ port. (cell_at s.cells port).state;
  asks_left = λ port. (cell_at s.cells port).asks;
  is_busy = not (length s.queue == 0);
  tells_distances = false;
  distance = λ port. 0;
  bound = 0;
  tells_load = false;
  load = 0;
}

-- Main memory after a history, whatever the caches hold. Where there are none, each store goes there.
abbrev pub main_with : Option Caches → ImageValue → List Item → List ℕ
main_with None image items = after_items (start_memory image) items
main_with (Some caches) image items = main_after caches no_letters (start_memory image) (start_memory image) items

-- Main memory of a memory as the law sees it.
abbrev pub main_memory : MemoryView → List ℕ
main_memory m = main_with m.caches m.image m.history

-- What holds between two calls.

-- No transaction is on, and no cache has a part in one.
pub record IsQuiet (bus : CacheBusView) : Type 0 where
  pub off : bus.bus.phase ≡ Off
  pub fresh : (cache : ℕ) → slave_in bus.slaves cache ≡ Fresh

-- The cell of the port in front of a cache.
abbrev pub cell_in : List Cell → ℕ → Cell
cell_in cells cache = get_or cells cache no_cell

-- How often a cache stands in a queue.
abbrev pub times : ℕ → List ℕ → ℕ
times cache queue = count_by (λ other. other == cache) queue

-- How many requests wait on a port.
abbrev pub waiting : PortState → ℕ
waiting Free = 0
waiting (Asked r) = 0
waiting (Waiting r) = 1
waiting (Answered r word) = 0
waiting Closed = 0

-- The caches in the queue are those whose requests wait, each once.
abbrev pub IsQueued : List Cell → List ℕ → Type 0
IsQueued cells queue = (cache : ℕ) → times cache queue ≡ waiting (cell_in cells cache).state

-- How many items the requests of a port may still make: a transaction and an entry each.
abbrev pub weight : Cell → ℕ
weight cell = 2 * (cell.asks + (pending cell.state + waiting cell.state))

-- How many requests of a port may join the queue before one of it leaves.
abbrev pub idle : Cell → ℕ
idle cell = 1 - waiting cell.state

-- What calls make of the queue, and of the requests that they answer.

-- Whether a request is a hit: its cache's letter needs no transaction.
abbrev pub is_hit_on : CacheBusView → ℕ → Request → Bool
is_hit_on bus cache r = suffices ((letters_after (caches_of bus.sets) no_letters bus.items).letter cache (r.addr / 8)) (stores r.kind)

-- As it is served, a hit is answered; another request waits, its cache behind all others.
abbrev pub AnswersOrJoins : Bool → Port → Request → SystemView → SystemView → Type 0
AnswersOrJoins true p r old new = ((word : ℕ) × ((cell_at new.cells p).state ≡ Answered r word)) × (new.queue ≡ old.queue)
AnswersOrJoins false p r old new = ((cell_at new.cells p).state ≡ Waiting r) × (new.queue ≡ old.queue ++ index_of p ∷ [])

-- The transaction that a request needs: none where it is a hit, else its cache's on its line.
abbrev pub IsNeeded : Bool → ℕ → Request → Option Transaction → Type 0
IsNeeded true cache r bus = bus ≡ None
IsNeeded false cache r bus =
    (t : Transaction) × ((bus ≡ Some t) × ((t.master ≡ cache) × ((t.line ≡ r.addr / 8) × (t.im ≡ stores r.kind))))

-- A step answers the request of the first cache, behind the transaction that it needs.
abbrev pub AnswersFirst : List ℕ → SystemView → SystemView → Type 0
AnswersFirst [] old new = new.queue ≡ []
AnswersFirst (cache ∷ caches) old new =
    (new.queue ≡ caches)
    × ((r : Request) × ((word : ℕ) × ((bus : Option Transaction)
    × (IsNeeded (is_hit_on old.bus cache r) cache r bus × Answers (port_of cache) r word bus (system old) (system new)))))

-- What a call makes of the queue.
abbrev pub Queues : Call → SystemView → SystemView → Type 0
Queues (Ask p r) old new = new.queue ≡ old.queue
Queues (Serve p) old new =
    (r : Request) → (cell_at old.cells p).state ≡ Asked r → AnswersOrJoins (is_hit_on old.bus (index_of p) r) p r old new
Queues (Step choice result) old new = AnswersFirst old.queue old new
Queues (Take p result) old new = new.queue ≡ old.queue
Queues (Withdraw p result) old new = new.queue ≡ filter (λ cache. not (cache == index_of p)) old.queue

-- A request on a cache becomes a hit, by the transaction that it needs.
pub record MakesHit (cache : ℕ) (r : Request) (old new : CacheBusView) : Type 0 where
  pub kept : Keeps old new
  pub items : (bus : Option Transaction) × (IsNeeded (is_hit_on old cache r) cache r bus × (new.items ≡ old.items ++ bus_items bus))
  pub spare : old.spare ≤ new.spare + 1
  pub quiet : IsQuiet new
  pub hit : serves_now new cache r ≡ true
  pub follows : StillFollows old new

-- A call leads from one memory to another as the law says, and this is what becomes of the queue.
pub record IsMade (call : Call) (old new : SystemView) : Type 0 where
  pub obeys : Obeys call (system old) (system new)
  pub queue : Queues call old new
