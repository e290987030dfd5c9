-- The sequential machine: cores over one flat memory, stepped by a list of entries.
use Rattle.std.specs.Prelude.{ℕ, zero, suc, ◌+◌, ◌-◌, ◌*◌, ◌==◌, nat_le, if◌then◌else◌, Option, Some, None, List, [], ◌∷◌, length}
use Rattle.std.specs.Prelude.{slice_get, slice_set, filter, map}
use Rattle.std.specs.Option.{option_and_then, option_map}
use Rattle.mips_isa.specs.declared.CoreState.{CoreState}
use Rattle.mips_isa.specs.declared.Next.{Next}
use Rattle.mips_isa.specs.declared.Next.TheVariants.{Stops, Asks, Goes}
use Rattle.mips_isa.specs.Steps.{next_of, finish_of}
use Rattle.access_log.specs.declared.Core.{Core}
use Rattle.access_log.specs.declared.Entry.{Entry}
use Rattle.access_log.specs.Memory.{made, due, after, is_same}

-- The machine: the code, the cores, and one memory.
pub record FlatMachine : Type 0 where
  pub code : List ℕ
  pub cores : List Core
  pub memory : List ℕ

-- How many bytes its memory has.
abbrev pub memory_bytes : FlatMachine → ℕ
memory_bytes machine = 4 * length machine.memory

-- The state after a quiet instruction, which makes no access: none where a stop or an access stands.
abbrev pub quiet : Next → Option CoreState
quiet (Goes state) = Some state
quiet (Asks access) = None
quiet (Stops stop) = None

-- The state after so many quiet instructions: none where a stop or an access stands before the last of them.
unfoldable pub quiet_steps : List ℕ → ℕ → ℕ → CoreState → Option CoreState
quiet_steps code bytes zero state = Some state
quiet_steps code bytes (suc n) state = option_and_then (quiet_steps code bytes n) (quiet (next_of code bytes state))

-- A core that has caught up to n executed instructions: none where a stop or an access stands before, or where more are executed already.
unfoldable pub caught_up : List ℕ → ℕ → ℕ → Core → Option Core
caught_up code bytes n core =
    if nat_le core.executed n
    then option_map (λ state. record { state = state; executed = n }) (quiet_steps code bytes (n - core.executed) core.state)
    else None

-- A core that has executed its access, where the part of memory was old.
abbrev pub finished : List ℕ → ℕ → Core → Core
finished code old core = record { state = finish_of code core.state old; executed = core.executed + 1 }

-- What a core of a machine does next.
abbrev pub next_in : FlatMachine → Core → Next
next_in machine core = next_of machine.code (memory_bytes machine) core.state

-- A core of a machine, caught up to n executed instructions.
abbrev pub caught_up_in : FlatMachine → ℕ → Core → Option Core
caught_up_in machine n core = caught_up machine.code (memory_bytes machine) n core

-- The core of an entry, caught up to it.
abbrev pub caught_up_for : FlatMachine → Entry → Option Core
caught_up_for machine entry = option_and_then (caught_up_in machine entry.nth) (slice_get machine.cores entry.core)

-- The machine after an entry of a core that has caught up to it: none where it isn't the entry that is due.
abbrev pub entered_by : FlatMachine → Entry → Core → Next → Option FlatMachine
entered_by machine entry core (Asks access) =
    if is_same entry (due machine.memory entry.core core.executed access)
    then Some (record {
      code = machine.code;
      cores = slice_set machine.cores entry.core (finished machine.code entry.old core);
      memory = after machine.memory entry;
    })
    else None
entered_by machine entry core (Stops stop) = None
entered_by machine entry core (Goes state) = None

-- The machine after an entry: its core catches up to it and makes it.
unfoldable pub entered : Entry → FlatMachine → Option FlatMachine
entered entry machine =
    option_and_then (λ core. entered_by machine entry core (next_in machine core)) (caught_up_for machine entry)

-- The machine after a list of entries, in order.
unfoldable pub entered_all : List Entry → FlatMachine → Option FlatMachine
entered_all [] machine = Some machine
entered_all (entry ∷ entries) machine = option_and_then (entered_all entries) (entered entry machine)

-- A machine with another core at an index.
abbrev pub with_core : FlatMachine → ℕ → Core → FlatMachine
with_core machine index core = record { code = machine.code; cores = slice_set machine.cores index core; memory = machine.memory }

-- The machine after the core at an index has caught up to n executed instructions.
abbrev pub moved : ℕ → ℕ → FlatMachine → Option FlatMachine
moved index n machine =
    option_map (with_core machine index) (option_and_then (caught_up_in machine n) (slice_get machine.cores index))

-- The machine after the cores from an index on have caught up to these counts.
unfoldable pub ended : ℕ → List ℕ → FlatMachine → Option FlatMachine
ended index [] machine = Some machine
ended index (n ∷ counts) machine = option_and_then (ended (index + 1) counts) (moved index n machine)

-- A core at the start, in this state.
abbrev pub starting : CoreState → Core
starting start = record { state = start; executed = 0 }

-- The machine at the start, a core for each of these states.
unfoldable pub started : List ℕ → List ℕ → List CoreState → FlatMachine
started code memory starts = record { code = code; cores = map starting starts; memory = memory }

-- Replay: the machine that makes these entries in this order from the start, and whose cores then catch up to their counts.
unfoldable pub replay : List ℕ → List ℕ → List CoreState → List Entry → List ℕ → Option FlatMachine
replay code memory starts order counts =
    option_and_then (ended 0 counts) (entered_all order (started code memory starts))

-- The entries of a core, in order.
abbrev pub own : List Entry → ℕ → List Entry
own entries core = filter (λ entry. entry.core == core) entries

-- A core that has caught up to an entry of its own, after it: it asks for this access, whatever memory holds.
abbrev pub own_by : List ℕ → Entry → Core → Next → Option Core
own_by code entry core (Asks access) =
    if is_same entry (made entry.core core.executed access entry.old) then Some (finished code entry.old core) else None
own_by code entry core (Stops stop) = None
own_by code entry core (Goes state) = None

-- A core by itself, after an entry of its own.
unfoldable pub own_step : List ℕ → ℕ → Entry → Core → Option Core
own_step code bytes entry core =
    option_and_then (λ there. own_by code entry there (next_of code bytes there.state)) (caught_up code bytes entry.nth core)

-- A core by itself, after a list of its own entries.
unfoldable pub own_steps : List ℕ → ℕ → List Entry → Core → Option Core
own_steps code bytes [] core = Some core
own_steps code bytes (entry ∷ entries) core = option_and_then (own_steps code bytes entries) (own_step code bytes entry core)
