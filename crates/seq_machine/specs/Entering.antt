-- What happens to an entry whose core has caught up to it.
use Rattle.std.specs.Prelude.{◌≡◌, ℕ, true, ◌*◌, length, Option, Some, None, List}
use Rattle.mips_isa.specs.Steps.{next_of}
use Rattle.mips_isa.specs.declared.Access.{Access}
use Rattle.mips_isa.specs.declared.Next.TheVariants.{Asks}
use Rattle.access_log.specs.declared.Core.{Core}
use Rattle.access_log.specs.declared.Entry.{Entry}
use Rattle.access_log.specs.Memory.{due, after, is_same}
use Rattle.access_log.specs.Replay.{FlatMachine, next_in, finished, entered_by}
use Rattle.access_log.specs.declared.field.Field.{Field}
use Rattle.access_log.specs.declared.field.Found.{Found}
use Rattle.seq_machine.specs.Differences.{difference_at}

-- Its core makes it where no difference is told; where one is, core and memory are as they were.
abbrev pub Enters : List ℕ → List ℕ → Core → Entry → Option (Field × Found) → List ℕ → Core → Type 0
Enters code memory core entry None new_memory new_core =
    (access : Access) × (next_of code (4 * length memory) core.state ≡ Asks access)
    × (is_same entry (due memory entry.core core.executed access) ≡ true)
    × (new_memory ≡ after memory entry) × (new_core ≡ finished code entry.old core)
Enters code memory core entry (Some told) new_memory new_core =
    (new_memory ≡ memory) × (new_core ≡ core)
    × (difference_at memory entry core (next_of code (4 * length memory) core.state) ≡ Some told)

-- The same in a machine.
abbrev pub EntersIn : FlatMachine → Entry → Core → Option (Field × Found) → FlatMachine → Type 0
EntersIn machine entry core None new = entered_by machine entry core (next_in machine core) ≡ Some new
EntersIn machine entry core (Some told) new = (new ≡ machine) × (difference_at machine.memory entry core (next_in machine core) ≡ Some told)
