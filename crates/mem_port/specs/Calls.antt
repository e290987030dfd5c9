-- The calls on a memory, and how they lead from one memory to another.
use Rattle.std.specs.Prelude.{◌≡◌, ℕ, Option, List, [], ◌∷◌}
use Rattle.access_log.specs.declared.request.Request.{Request}
use Rattle.mem_port.specs.declared.port.Port.{Port}
use Rattle.mem_port.specs.declared.port.Moved.{Moved}
use Rattle.mem_port.specs.declared.port.PortState.TheVariants.{Asked}
use Rattle.mem_port.specs.declared.port.Withdrawal.{Withdrawal}
use Rattle.mem_port.specs.Memory.{MemoryView, Asks, Serves, Steps, Takes, Withdraws}

-- A call with what it was given and what it answered.
pub data Call : Type 0 where
  Ask : Port → Request → Call
  Serve : Port → Call
  Step : ℕ → Moved → Call
  Take : Port → Option ℕ → Call
  Withdraw : Port → Withdrawal → Call

-- What the law says of a call, whatever is chosen in it.
abbrev pub Obeys : Call → MemoryView → MemoryView → Type 0
Obeys (Ask p r) old new = Asks p r old new
Obeys (Serve p) old new = (r : Request) → old.port p ≡ Asked r → Serves p r old new
Obeys (Step choice result) old new = Steps result old new
Obeys (Take p result) old new = Takes result p old new
Obeys (Withdraw p result) old new = Withdraws result p old new

-- Calls, each made where the one before has led, lead from one memory to another.
abbrev pub Lead : {M : Type 0} → (Call → M → M → Type 0) → List Call → M → M → Type 0
Lead {M} makes [] old new = new ≡ old
Lead {M} makes (call ∷ calls) old new = (between : M) × (makes call old between × Lead makes calls between new)
