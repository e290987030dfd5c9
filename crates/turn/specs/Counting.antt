-- A memory whose calls are counted, as contracts see it.
use Rattle.std.specs.Prelude.{◌≡◌, ℕ}
use Rattle.mem_port.specs.declared.memory.MemoryCore.{Ghosts}
use Rattle.mem_port.specs.Calls.{Call}
use Rattle.turn.specs.declared.counted.Counted.{Counted}
use Rattle.turn.specs.Numbers.{numbers, with_call}
use Rattle.turn.specs.Views.{CountedView, counted}

module _ {M : Type 0} {g : Ghosts M} where
  abbrev pub memory_of : Counted M g → M
  memory_of k = k.memory

  abbrev pub seen : Counted M g → CountedView
  seen k = counted (g.view k.memory) (numbers g.view k.tally)

  -- A call for a core was made on the memory, and counted.
  pub record IsCounted (core : ℕ) (call : Call) (old new : Counted M g) : Type 0 where
    pub made : g.makes call (memory_of old) (memory_of new)
    pub numbers : (seen new).numbers ≡ with_call call core (seen old).memory (seen old).numbers
