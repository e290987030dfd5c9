-- What a seat of the lock knows while it rests, and while it has the memory.
use Rattle.std.specs.Prelude.{◌≡◌, ℕ, ◌<◌, [], ◌∷◌, length, Some, None}
use Rattle.atomic_table.specs.Table.{Me}
use Rattle.mem_port.specs.Memory.{Keeps}
use Rattle.turn.specs.declared.views.PassView.{PassView}
use Rattle.turn.specs.Views.{CountedView, CoreFits, LeavesCores}
use Rattle.turn.specs.Rule.{own_core, pass_view, counts_of, Event, IsCaused}

-- It holds no slot, has not taken the memory, and speaks for this core first.
pub record IsResting {S : Type 0} (core : ℕ) (me : Me S (PassView S)) : Type 0 where
  pub empty : me.1 ≡ []
  pub idle : me.0.taken ≡ None
  pub some_core : 0 < length me.0.cores
  pub named : (own_core me.0.cores).core ≡ core

-- It has taken the memory, of which all is so that it has seen of its own core.
pub record HasTurn {S : Type 0} (seen : S → CountedView) (before me : Me S (PassView S)) : Type 0 where
  pub memory : S
  pub is : me ≡ (pass_view before.0.origin (Some memory) before.0.cores (counts_of before.0), (0, memory) ∷ [])
  pub fits : CoreFits (seen memory) (own_core before.0.cores)
  pub kept : (k : S) → before.0.origin ≡ Some k → Keeps (seen k).memory (seen memory).memory

-- The memory that it holds came from the one that it took by a call for its own core, which ended so.
pub record MayRelease {S : Type 0} (seen : S → CountedView) (event : Event) (me : Me S (PassView S)) : Type 0 where
  pub view : PassView S
  pub memory : S
  pub taken : S
  pub is : me ≡ (view, (0, memory) ∷ [])
  pub has : view.taken ≡ Some taken
  pub some_core : 0 < length view.cores
  pub within : (own_core view.cores).core < (seen memory).memory.cores
  pub leaves : LeavesCores (own_core view.cores).core (seen taken) (seen memory)
  pub caused : IsCaused event (own_core view.cores).core (seen taken) (seen memory)
