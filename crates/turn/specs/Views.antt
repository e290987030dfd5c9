-- What was seen of a core, and when it is so of a memory.
use Rattle.std.specs.Prelude.{◌≡◌, ◌≢◌, ℕ, ◌+◌, ◌-◌, ◌<◌, List}
use Rattle.std.specs.List.{AllByRecursion}
use Rattle.mem_port.specs.declared.port.Port.{Port}
use Rattle.mem_port.specs.declared.port.Port.TheVariants.{Fetch, Access}
use Rattle.mem_port.specs.declared.port.PortState.{PortState}
use Rattle.mem_port.specs.declared.port.PortState.TheVariants.{Free, Asked, Waiting, Answered, Closed}
use Rattle.mem_port.specs.Ports.{core_of}
use Rattle.mem_port.specs.Memory.{MemoryView, committed}
use Rattle.mem_port.specs.Side.{Evolves, SideView, LeavesOthers, remaining_wait_of}
use Rattle.turn.specs.declared.views.PortView.{PortView}
use Rattle.turn.specs.declared.views.CoreView.{CoreView}
use Rattle.turn.specs.Numbers.{Numbers}

-- A memory and what was counted of its calls.
pub record CountedView : Type 0 where
  pub memory : MemoryView
  pub numbers : Numbers

abbrev pub counted : MemoryView → Numbers → CountedView
counted m n = record { memory = m; numbers = n }

-- A port as it is.
abbrev pub port_view : CountedView → Port → PortView
port_view x q = record {
  state = x.memory.port q;
  asks_left = x.memory.asks_left q;
  asked = x.numbers.asked q;
  helping = x.numbers.helping q;
}

-- A core as it is.
abbrev pub core_view : CountedView → ℕ → CoreView
core_view x core = record {
  core = core;
  fetch = port_view x (Fetch core);
  access = port_view x (Access core);
  moved = x.numbers.moved core;
  entries = committed x.memory core;
}

-- What was seen of a port of the core.
abbrev pub port_in : CoreView → Port → PortView
port_in v (Fetch core) = v.fetch
port_in v (Access core) = v.access

-- What was seen of a port is so, but that a request that waited may have been answered since.
pub record PortFits (x : CountedView) (q : Port) (v : PortView) : Type 0 where
  pub state : Evolves v.state (x.memory.port q)
  pub asks_left : v.asks_left ≡ x.memory.asks_left q
  pub asked : v.asked ≡ x.numbers.asked q
  pub helping : v.helping ≡ x.numbers.helping q

-- What was seen of a core is so.
pub record CoreFits (x : CountedView) (v : CoreView) : Type 0 where
  pub within : v.core < x.memory.cores
  pub fetch : PortFits x (Fetch v.core) v.fetch
  pub access : PortFits x (Access v.core) v.access
  pub moved : v.moved ≡ x.numbers.moved v.core
  pub entries : v.entries ≡ committed x.memory v.core

-- So it is of each of several cores.
abbrev pub CoresFit : CountedView → List CoreView → Type 0
CoresFit x vs = AllByRecursion (CoreFits x) vs

-- What a call for a core leaves of the others and of their numbers.
pub record LeavesCores (core : ℕ) (old new : CountedView) : Type 0 where
  pub memory : LeavesOthers core old.memory new.memory
  pub asked : (q : Port) → core_of q ≢ core → new.numbers.asked q ≡ old.numbers.asked q
  pub helping : (q : Port) → core_of q ≢ core → new.numbers.helping q ≡ old.numbers.helping q
  pub moved : (other : ℕ) → other ≢ core → new.numbers.moved other ≡ old.numbers.moved other

-- One core's side of a memory that it shares, by what was seen of the core and by what no call changes of the memory.
abbrev pub side_in : MemoryView → CoreView → SideView
side_in m v = record {
  image = m.image;
  cores = m.cores;
  port = λ q. (port_in v q).state;
  asks_left = λ q. (port_in v q).asks_left;
  taken = v.entries;
  tells_distances = m.tells_distances;
  remaining_wait = λ q. remaining_wait_of (port_in v q).state (m.bound - (port_in v q).helping);
  bound = m.bound;
}

-- How many requests are open: asked, and neither taken nor withdrawn.
abbrev pub open_on : PortState → ℕ
open_on Free = 0
open_on (Asked r) = 1
open_on (Waiting r) = 1
open_on (Answered r word) = 1
open_on Closed = 0

abbrev pub open_of : CoreView → ℕ
open_of v = open_on v.fetch.state + open_on v.access.state

-- How many requests it asked.
abbrev pub asks_of : CoreView → ℕ
asks_of v = v.fetch.asked + v.access.asked
