-- What a pass is to its turn, and what a call leaves of it.
use Rattle.std.specs.Prelude.{◌≡◌, ℕ, ◌+◌, ◌<◌, List, [], ◌∷◌, Some, None}
use Rattle.mem_port.specs.declared.memory.MemoryCore.{Ghosts}
use Rattle.mem_port.specs.declared.port.Port.{Port}
use Rattle.mem_port.specs.declared.port.PortState.TheVariants.{Free}
use Rattle.mem_port.specs.declared.port.Moved.TheVariants as moved
use Rattle.mem_port.specs.declared.port.Withdrawal.TheVariants as withdrawal
use Rattle.mem_port.specs.Calls.{Call, Ask, Serve, Step, Take, Withdraw}
use Rattle.mem_port.specs.Memory.{MemoryView, IsLawful, Keeps}
use Rattle.mem_port.specs.Side.{SideView, SideStays, side_of, steps_in}
use Rattle.turn.specs.declared.views.PortView.{PortView}
use Rattle.turn.specs.declared.views.CoreView.{CoreView}
use Rattle.turn.specs.declared.counted.Counted.{Counted}
use Rattle.turn.specs.declared.pass.Turn.{Turn}
use Rattle.turn.specs.declared.pass.Pass.{Pass}
use Rattle.turn.specs.Numbers.{no_numbers}
use Rattle.turn.specs.Views.{CoreFits, counted, core_view, port_in, side_in, asks_of}
use Rattle.turn.specs.Rule.{own_core, joined_cores, times, Counts, no_counts, Event, quiet, none_taken, idle_step, moved_step}
use Rattle.turn.specs.Rule.{none_withdrawn, with_event, IsCaused, counts_of}
use Rattle.turn.specs.Counting.{memory_of, seen, IsCounted}

-- A memory before its first call.
pub record IsNew (m : MemoryView) : Type 0 where
  pub lawful : IsLawful m
  pub history : m.history ≡ []
  pub ports : (q : Port) → m.port q ≡ Free

-- What is counted of a call.
abbrev pub event_of : Call → Event
event_of (Ask p r) = quiet
event_of (Serve p) = quiet
event_of (Step choice moved.Moved) = moved_step
event_of (Step choice moved.Idle) = idle_step
event_of (Take p (Some word)) = quiet
event_of (Take p None) = none_taken
event_of (Withdraw p (withdrawal.Answered word)) = quiet
event_of (Withdraw p withdrawal.Withdrawn) = none_withdrawn

-- How many requests it asks, and how many steps that moved something it makes.

abbrev pub requests_of : Call → ℕ
requests_of (Ask p r) = 1
requests_of (Serve p) = 0
requests_of (Step choice result) = 0
requests_of (Take p result) = 0
requests_of (Withdraw p result) = 0

abbrev pub moves_of : Call → ℕ
moves_of (Ask p r) = 0
moves_of (Serve p) = 0
moves_of (Step choice result) = steps_in result
moves_of (Take p result) = 0
moves_of (Withdraw p result) = 0

module _ {M : Type 0} {g : Ghosts M} where
  -- The memory that a turn was made with.
  abbrev pub first_of : Turn M g → M
  first_of turn = memory_of turn.lock.table.shared.key.value

  abbrev pub first_view : Turn M g → MemoryView
  first_view turn = g.view (first_of turn)

  -- What a pass has seen of its own core, and of all for which it speaks.
  abbrev pub own : Pass M g → CoreView
  own pass = own_core pass.seat.me.0.cores

  abbrev pub all_cores : Pass M g → List CoreView
  all_cores pass = pass.seat.me.0.cores

  abbrev pub port_of : Pass M g → Port → PortView
  port_of pass q = port_in (own pass) q

  -- How its calls were answered.
  abbrev pub counts : Pass M g → Counts
  counts pass = counts_of pass.seat.me.0

  -- Its core's side of the memory.
  abbrev pub side : Turn M g → Pass M g → SideView
  side turn pass = side_in (first_view turn) (own pass)

  -- It was made with this turn.
  pub record IsOf (turn : Turn M g) (pass : Pass M g) : Type 0 where
    pub table : pass.seat.table_id ≡ turn.lock.table.shared.table_id
    pub origin : pass.seat.me.0.origin ≡ Some turn.lock.table.shared.key.value

  -- The pass of a core, which has seen the memory at the start: its side is that of a core that has the memory for itself.
  pub record IsFirst (turn : Turn M g) (core : ℕ) (pass : Pass M g) : Type 0 where
    pub turn_is : IsOf turn pass
    pub core_is : pass.core ≡ core
    pub cores : all_cores pass ≡ core_view (counted (first_view turn) no_numbers) core ∷ []
    pub side_is : SideStays core (side_of (first_view turn) core) (side turn pass)
    pub none_counted : counts pass ≡ no_counts

  -- It speaks for every core.
  abbrev pub SpeaksForAll : Turn M g → Pass M g → Type 0
  SpeaksForAll turn pass = (core : ℕ) → core < (first_view turn).cores → 0 < times core (all_cores pass)

  -- A pass made a call: on a memory of which all was so that it had seen, and what this then was of its core it has now seen.
  pub record HasMade (turn : Turn M g) (call : Call) (old new : Pass M g) : Type 0 where
    pub turn_is : IsOf turn new
    pub core : new.core ≡ old.core
    pub joined : joined_cores (all_cores new) ≡ joined_cores (all_cores old)
    -- Its answer is counted.
    pub counts_are : counts new ≡ with_event (event_of call) (counts old)
    pub asked : asks_of (own new) ≡ asks_of (own old) + requests_of call
    pub moved : (own new).moved ≡ (own old).moved + moves_of call
    -- The memory as it was taken, and as it was let go.
    pub taken : Counted M g
    pub left : Counted M g
    pub kept : Keeps (first_view turn) (seen taken).memory
    pub fits : CoreFits (seen taken) (own old)
    pub made : IsCounted old.core call taken left
    pub caused : IsCaused (event_of call) old.core (seen taken) (seen left)
    pub shows : own new ≡ core_view (seen left) old.core
