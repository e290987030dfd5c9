-- What is counted of the calls on a memory, and the bounds that it keeps.
use Rattle.std.specs.Prelude.{ℕ, zero, suc, ◌+◌, ◌*◌, ◌≤◌, ◌==◌, ◌&&◌, Bool, true, false, IsTrue, if◌then◌else◌}
use Rattle.mem_port.specs.declared.port.Port.{Port}
use Rattle.mem_port.specs.declared.port.Port.TheVariants.{Fetch, Access}
use Rattle.mem_port.specs.declared.port.PortState.{PortState}
use Rattle.mem_port.specs.declared.port.PortState.TheVariants as port
use Rattle.mem_port.specs.declared.port.Moved.{Moved}
use Rattle.mem_port.specs.declared.port.Moved.TheVariants as moved
use Rattle.mem_port.specs.Calls.{Call, Ask, Serve, Step, Take, Withdraw}
use Rattle.mem_port.specs.Ports.{core_of, IsWaiting}
use Rattle.mem_port.specs.Memory.{MemoryView, steps_of_request}
use Rattle.turn.specs.declared.tally.Tally.{Tally, Fresh, Asked', Served', Moved'}

-- The requests that were asked on each port; the steps for each core that moved something, and those of them that were made
-- while the last request on a port of that core waited.
pub record Numbers : Type 0 where
  pub asked : Port → ℕ
  pub moved : ℕ → ℕ
  pub helping : Port → ℕ

abbrev pub same_port : Port → Port → Bool
same_port (Fetch c) (Fetch k) = c == k
same_port (Fetch c) (Access k) = false
same_port (Access c) (Fetch k) = false
same_port (Access c) (Access k) = c == k

abbrev pub waits : PortState → Bool
waits port.Free = false
waits (port.Asked r) = false
waits (port.Waiting r) = true
waits (port.Answered r word) = false
waits port.Closed = false

abbrev pub no_numbers : Numbers
no_numbers = record { asked = λ q. 0; moved = λ c. 0; helping = λ q. 0 }

-- One request more was asked on a port.
abbrev pub with_ask : Port → Numbers → Numbers
with_ask p n = record { asked = λ q. if same_port p q then n.asked q + 1 else n.asked q; moved = n.moved; helping = n.helping }

-- A request was served: no step has helped it yet.
abbrev pub with_serve : Port → Numbers → Numbers
with_serve p n = record { asked = n.asked; moved = n.moved; helping = λ q. if same_port p q then 0 else n.helping q }

-- A step for a core moved something, and helped the requests of that core that waited.
abbrev pub with_move : ℕ → MemoryView → Numbers → Numbers
with_move core m n = record {
  asked = n.asked;
  moved = λ c. if core == c then n.moved c + 1 else n.moved c;
  helping = λ q. if (core == core_of q) && waits (m.port q) then n.helping q + 1 else n.helping q;
}

abbrev pub with_step : Moved → ℕ → MemoryView → Numbers → Numbers
with_step moved.Moved core m n = with_move core m n
with_step moved.Idle core m n = n

-- The numbers behind a call for a core, in a memory as it was before it.
abbrev pub with_call : Call → ℕ → MemoryView → Numbers → Numbers
with_call (Ask p r) core m n = with_ask p n
with_call (Serve p) core m n = with_serve p n
with_call (Step choice result) core m n = with_step result core m n
with_call (Take p result) core m n = n
with_call (Withdraw p result) core m n = n

-- The numbers of a tally.
unfoldable pub numbers : {M : Type 0} → (M → MemoryView) → Tally M → Numbers
numbers view Fresh = no_numbers
numbers view (Asked' s before p) = with_ask p (numbers view before)
numbers view (Served' s before p) = with_serve p (numbers view before)
numbers view (Moved' s before m core) = with_move core (view m.value) (numbers view before)

-- All requests that so many cores asked.
abbrev pub all_asked : (Port → ℕ) → ℕ → ℕ
all_asked asked zero = 0
all_asked asked (suc c) = all_asked asked c + (asked (Fetch c) + asked (Access c))

-- Where distances are told, the steps that helped a waiting request and its distance are within the bound.
abbrev pub IsHelped : MemoryView → Numbers → Type 0
IsHelped m n = IsTrue m.tells_distances → (q : Port) → IsWaiting (m.port q) → n.helping q + m.distance q ≤ m.bound

-- Where the load is told, each core's steps that moved something and the load are within what all cores asked.
abbrev pub IsPaid : MemoryView → Numbers → Type 0
IsPaid m n = IsTrue m.tells_load → (core : ℕ) → n.moved core + m.load ≤ steps_of_request m * all_asked n.asked m.cores
