-- The first field in which an entry differs from the access that is due.
use Rattle.std.specs.Prelude.{◌≡◌, ℕ, ◌==◌, not, if◌then◌else◌, Option, Some, None, List}
use Rattle.mips_isa.specs.declared.Next.{Next}
use Rattle.mips_isa.specs.declared.Next.TheVariants.{Stops, Asks, Goes}
use Rattle.access_log.specs.declared.Core.{Core}
use Rattle.access_log.specs.declared.Entry.{Entry}
use Rattle.access_log.specs.Memory.{due, kind_number, is_same_word}
use Rattle.access_log.specs.Replay.{FlatMachine, next_in}
use Rattle.seq_machine.specs.declared.Reach.{Reach}
use Rattle.seq_machine.specs.declared.Reach.TheVariants.{There, AccessAt, StopAt, Passed}
use Rattle.access_log.specs.declared.field.Field.{Field}
use Rattle.access_log.specs.declared.field.Field.TheVariants as fields
use Rattle.access_log.specs.declared.field.Found.{Found}
use Rattle.access_log.specs.declared.field.Found.TheVariants as founds
use Rattle.seq_machine.specs.declared.Differs.{Differs}
use Rattle.seq_machine.specs.Reaching.{CatchesUp}

-- What is due in the field of the stored word.
abbrev pub found_new : Option ℕ → Found
found_new None = founds.Nothing
found_new (Some word) = founds.Hex word

-- The first field in which an entry differs from the one that is due, and what is due there: none where none differs.
unfoldable pub first_difference : Entry → Entry → Option (Field × Found)
first_difference entry due =
    if not (kind_number entry.kind == kind_number due.kind) then Some (fields.Kind, founds.Kind due.kind) else
    (if not (entry.addr == due.addr) then Some (fields.Addr, founds.Hex due.addr) else
    (if not (entry.old == due.old) then Some (fields.Old, founds.Hex due.old) else
    (if not (is_same_word entry.new due.new) then Some (fields.New, found_new due.new) else None)))

-- The difference of an entry whose core has caught up to it and does this next, over this memory.
abbrev pub difference_at : List ℕ → Entry → Core → Next → Option (Field × Found)
difference_at memory entry core (Asks access) = first_difference entry (due memory entry.core core.executed access)
difference_at memory entry core (Stops stop) = Some (fields.Nth, founds.Nothing)
difference_at memory entry core (Goes state) = Some (fields.Nth, founds.Nothing)

-- The difference of an entry whose core was to catch up to it and stands there. Where an access stands before, its number
-- is due; where a stop does, or the core has passed, nothing is due.
abbrev pub difference_of : FlatMachine → Entry → Reach → Core → Option (Field × Found)
difference_of machine entry There core = difference_at machine.memory entry core (next_in machine core)
difference_of machine entry (AccessAt m) core = Some (fields.Nth, founds.Number m)
difference_of machine entry (StopAt m) core = Some (fields.Nth, founds.Nothing)
difference_of machine entry (Passed m) core = Some (fields.Nth, founds.Nothing)

-- This is the first difference of an entry. Its core has caught up as far as it can, and nothing else has changed.
pub record DiffersFirst (old : FlatMachine) (entry : Entry) (differs : Differs) (new : FlatMachine) : Type 0 where
  pub reach : Reach
  pub catches : CatchesUp old entry.core entry.nth reach new
  pub entry_is : differs.entry ≡ entry
  pub told : difference_of new entry reach catches.after ≡ Some (differs.field, differs.found)
