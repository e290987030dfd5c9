-- Where a core stands that was to catch up to n executed instructions.
use Rattle.std.specs.Prelude.{◌≡◌, ℕ, ◌<◌, Some, List, slice_get}
use Rattle.mips_isa.specs.Steps.{next_of}
use Rattle.mips_isa.specs.declared.Next.{Next}
use Rattle.mips_isa.specs.declared.Next.TheVariants.{Stops, Asks, Goes}
use Rattle.access_log.specs.declared.Core.{Core}
use Rattle.access_log.specs.Replay.{FlatMachine, memory_bytes, caught_up, with_core}
use Rattle.seq_machine.specs.declared.Reach.{Reach}
use Rattle.seq_machine.specs.declared.Reach.TheVariants.{There, AccessAt, StopAt, Passed}

-- An access stands there: the next instruction makes it.
abbrev pub IsAtAccess : Next → Type 0
IsAtAccess (Asks access) = Unit {0}
IsAtAccess (Stops stop) = ⊥
IsAtAccess (Goes state) = ⊥

-- A stop stands there.
abbrev pub IsAtStop : Next → Type 0
IsAtStop (Stops stop) = Unit {0}
IsAtStop (Asks access) = ⊥
IsAtStop (Goes state) = ⊥

-- What each answer says of the core before and after: it has executed n; or m, which is less, and is at an access or at
-- a stop; or it had executed m, which is more, and is as it was.
abbrev pub Reaches : List ℕ → ℕ → ℕ → Core → Reach → Core → Type 0
Reaches code bytes n old There new = caught_up code bytes n old ≡ Some new
Reaches code bytes n old (AccessAt m) new = (m < n) × (caught_up code bytes m old ≡ Some new) × IsAtAccess (next_of code bytes new.state)
Reaches code bytes n old (StopAt m) new = (m < n) × (caught_up code bytes m old ≡ Some new) × IsAtStop (next_of code bytes new.state)
Reaches code bytes n old (Passed m) new = (n < m) × (old.executed ≡ m) × (new ≡ old)

-- The core at an index of a machine stands where the answer says, and nothing else has changed.
pub record CatchesUp (old : FlatMachine) (index n : ℕ) (reach : Reach) (new : FlatMachine) : Type 0 where
  pub before : Core
  pub after : Core
  pub was : slice_get old.cores index ≡ Some before
  pub reaches : Reaches old.code (memory_bytes old) n before reach after
  pub is : new ≡ with_core old index after
