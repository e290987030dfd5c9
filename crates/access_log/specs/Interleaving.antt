-- Cores that run by themselves, and accesses that find what those before them left.
use Rattle.std.specs.Prelude.{◌≡◌, ℕ, ◌*◌, ◌<◌, Some, List, length, slice_get}
use Rattle.std.specs.List.{AllByRecursion}
use Rattle.mips_isa.specs.declared.CoreState.{CoreState}
use Rattle.access_log.specs.declared.Core.{Core}
use Rattle.access_log.specs.declared.Entry.{Entry}
use Rattle.access_log.specs.Memory.{memory_after}
use Rattle.access_log.specs.Replay.{FlatMachine, caught_up, own, own_steps, starting, replay}

-- A core that begins in this state runs by itself: it makes exactly its own entries of the order, and catches up to n executed
-- instructions.
pub record RunsAlone (code memory : List ℕ) (start : CoreState) (order : List Entry) (core n : ℕ) (final : Core) : Type 0 where
  pub mid : Core
  pub own_entries : own_steps code (4 * length memory) (own order core) (starting start) ≡ Some mid
  pub end : caught_up code (4 * length memory) n mid ≡ Some final

-- The order merges what each core does by itself from where it begins, and each entry finds what the entries before it left.
pub record Interleaves (code memory : List ℕ) (starts : List CoreState) (order : List Entry) (counts : List ℕ) (finals : List Core)
    (new_memory : List ℕ) : Type 0 where
  pub within : AllByRecursion (λ entry. entry.core < length starts) order
  pub remembers : memory_after order memory ≡ Some new_memory
  pub counts_are : length counts ≡ length starts
  pub finals_are : length finals ≡ length starts
  pub alone : (core n : ℕ) (start : CoreState) (final : Core) → slice_get starts core ≡ Some start → slice_get counts core ≡ Some n
      → slice_get finals core ≡ Some final → RunsAlone code memory start order core n final

-- Such an order is a run of the sequential machine, with the same cores and the same memory.
abbrev pub InterleavingIsReplay : Type 0
InterleavingIsReplay =
    (code memory : List ℕ) (starts : List CoreState) (order : List Entry) (counts : List ℕ) (finals : List Core) (new_memory : List ℕ)
    → Interleaves code memory starts order counts finals new_memory
    → replay code memory starts order counts ≡ Some (record { code = code; cores = finals; memory = new_memory })

-- And each run of the sequential machine is such an order: none of the cores' accesses is missing, doubled or foreign.
abbrev pub ReplayIsInterleaving : Type 0
ReplayIsInterleaving =
    (code memory : List ℕ) (starts : List CoreState) (order : List Entry) (counts : List ℕ) (machine : FlatMachine)
    → length counts ≡ length starts
    → replay code memory starts order counts ≡ Some machine
    → Interleaves code memory starts order counts machine.cores machine.memory
