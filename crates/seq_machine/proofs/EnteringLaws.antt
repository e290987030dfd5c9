-- What applying an entry does, by the definitions of replay.
use Rattle.std.proofs.Common.{◌≡◌, ℕ, List, refl, sym, ◌∙◌, ◌⊎◌, inl, inr}
use Rattle.std.specs.Prelude.{Option, Some, None, slice_get, slice_set}
use Rattle.std.proofs.lemmas.List.{set-set, length-set}
use Rattle.std.proofs.lemmas.Option.{none-some, same_Some}
use Rattle.std_laws.proofs.ListLaws.{set-slice_get}
use Rattle.std_laws.proofs.OptionLaws.{option_and_then_parts, cond_some_parts}
use Rattle.mips_isa.specs.declared.Next.{Next}
use Rattle.mips_isa.specs.declared.Next.TheVariants.{Stops, Asks, Goes}
use Rattle.access_log.specs.declared.Core.{Core}
use Rattle.access_log.specs.declared.Entry.{Entry}
use Rattle.access_log.specs.Memory.{due, after, is_same}
use Rattle.access_log.specs.Replay.{FlatMachine, memory_bytes, with_core, next_in, finished, caught_up_for, entered, entered_by}
use Rattle.access_log.proofs.ItemLaws.{length-after}
use Rattle.access_log.specs.declared.field.Field.{Field}
use Rattle.access_log.specs.declared.field.Found.{Found}
use Rattle.seq_machine.specs.declared.Reach.{Reach}
use Rattle.seq_machine.specs.declared.Reach.TheVariants.{There, StopAt, Passed}
use Rattle.seq_machine.specs.Reaching.{CatchesUp}
use Rattle.seq_machine.specs.Differences.{difference_at}
use Rattle.seq_machine.specs.Entering.{Enters, EntersIn}
use Rattle.seq_machine.proofs.Differences.{told_not_same}
use Rattle.seq_machine.proofs.ReachingLaws.{IsAsLarge, not_there}

-- what a core makes, it makes in a machine
pub entered_by-made : (machine : FlatMachine) (entry : Entry) (core : Core) (memory : List ℕ) (new_core : Core)
    → Enters machine.code machine.memory core entry None memory new_core
    → entered_by machine entry core (next_in machine core)
    ≡ Some (record { code = machine.code; cores = slice_set machine.cores entry.core new_core; memory = memory })
entered_by-made machine entry core memory new_core (access, asks, same, memory_is, core_is) = rw (asks, same, memory_is, core_is) refl

-- the cores at other indices matter, and that of this one doesn't
pub entered_by-with_core : (machine : FlatMachine) (entry : Entry) (other core : Core) (next : Next)
    → entered_by (with_core machine entry.core other) entry core next ≡ entered_by machine entry core next
entered_by-with_core machine entry other core (Stops stop) = refl
entered_by-with_core machine entry other core (Goes state) = refl
entered_by-with_core machine entry other core (Asks access) =
    rw (set-set machine.cores entry.core other (finished machine.code entry.old core)) refl

-- an entry that its core makes when it has caught up
pub entered-made : (machine : FlatMachine) (entry : Entry) (mid new : FlatMachine) (h : CatchesUp machine entry.core entry.nth There mid)
    → entered_by mid entry h.after (next_in mid h.after) ≡ Some new → entered entry machine ≡ Some new
unfolding entered
entered-made machine entry mid new h made =
    let here : entered_by (with_core machine entry.core h.after) entry h.after (next_in machine h.after) ≡ Some new = rw h.is at made in
    rw (h.was, h.reaches) (sym (entered_by-with_core machine entry h.after h.after (next_in machine h.after)) ∙ here)

-- no entry is made where the core does something else
not_made : (machine : FlatMachine) (entry : Entry) (core : Core) (next : Next) (told : Field × Found)
    → difference_at machine.memory entry core next ≡ Some told → entered_by machine entry core next ≡ None
not_made machine entry core (Stops stop) told h = refl
not_made machine entry core (Goes state) told h = refl
not_made machine entry core (Asks access) told h = rw (told_not_same entry (due machine.memory entry.core core.executed access) told h) refl

-- an entry whose core is not there can't be made
pub entered-away : (machine : FlatMachine) (entry : Entry) (reach : Reach) (new : FlatMachine)
    → CatchesUp machine entry.core entry.nth reach new → (reach ≡ There → ⊥) → entered entry machine ≡ None
unfolding entered
entered-away machine entry reach new h away =
    rw (h.was, not_there machine.code (memory_bytes machine) entry.nth h.before h.after reach h.reaches away) refl

-- an entry that differs can't be made
pub entered-differs : (machine : FlatMachine) (entry : Entry) (told : Field × Found) (mid : FlatMachine)
    (h : CatchesUp machine entry.core entry.nth There mid)
    → difference_at mid.memory entry h.after (next_in mid h.after) ≡ Some told → entered entry machine ≡ None
unfolding entered
entered-differs machine entry told mid h differs =
    let here : difference_at machine.memory entry h.after (next_in machine h.after) ≡ Some told = rw h.is at differs in
    rw (h.was, h.reaches) (not_made machine entry h.after (next_in machine h.after) told here)

-- a stop, or more executed, is elsewhere
pub elsewhere : (reach : Reach) → ((x : ℕ) × (reach ≡ StopAt x)) ⊎ ((x : ℕ) × (reach ≡ Passed x)) → reach ≡ There → ⊥
elsewhere reach (inl (x, e)) there = cc
elsewhere reach (inr (x, e)) there = cc

-- what a core does over code and memory, it does in a machine
pub enters_in : (machine : FlatMachine) (entry : Entry) (core : Core) (result : Option (Field × Found)) (memory : List ℕ) (new_core : Core)
    → slice_get machine.cores entry.core ≡ Some core
    → Enters machine.code machine.memory core entry result memory new_core
    → EntersIn machine entry core result
    (record { code = machine.code; cores = slice_set machine.cores entry.core new_core; memory = memory })
enters_in machine entry core None memory new_core here h = entered_by-made machine entry core memory new_core h
enters_in machine entry core (Some told) memory new_core here (memory_is, core_is, differs) =
    (rw (memory_is, core_is, set-slice_get machine.cores entry.core core here) refl, differs)

-- an entry keeps the number of cores and the size of memory
by_keeps : (machine : FlatMachine) (entry : Entry) (core : Core) (next : Next) (new : FlatMachine)
    → entered_by machine entry core next ≡ Some new → IsAsLarge machine new
by_keeps machine entry core (Stops stop) new h = absurd (none-some new h)
by_keeps machine entry core (Goes state) new h = absurd (none-some new h)
by_keeps machine entry core (Asks access) new h =
    let made : FlatMachine = record {
      code = machine.code;
      cores = slice_set machine.cores entry.core (finished machine.code entry.old core);
      memory = after machine.memory entry;
    } in
    let parts = cond_some_parts (is_same entry (due machine.memory entry.core core.executed access)) (Some made) new h in
    rw (← same_Some made new parts.1)
    (record {
      cores = length-set machine.cores entry.core (finished machine.code entry.old core);
      memory = length-after machine.memory entry;
    })

pub as_large-entered : (machine : FlatMachine) (entry : Entry) (new : FlatMachine) → entered entry machine ≡ Some new
    → IsAsLarge machine new
unfolding entered
as_large-entered machine entry new h =
    let parts = option_and_then_parts (λ (core : Core). entered_by machine entry core (next_in machine core)) (caught_up_for machine entry)
    new h
    in
    by_keeps machine entry parts.0 (next_in machine parts.0) new parts.2
