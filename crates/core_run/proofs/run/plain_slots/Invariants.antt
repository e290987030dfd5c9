use Rattle.std.proofs.Common.{◌≡◌, ◌≤◌, ℕ, length}
use Rattle.std.specs.Prelude.{Some, slice_get, vec_capacity}
use Rattle.core_run.specs.declared.plain.Plain.{Plain}
use Rattle.core_run.specs.declared.serial.CoreSlot.{CoreSlot}
use Rattle.core_run.proofs.PlainRunLaws.{IsFirstSlot}
use Rattle.core_run.proofs.run.plain_slots.Given as goal

abbrev pub invariant-loop-core : goal.invariant-loop-core
invariant-loop-core l = record {
  count : length l.slots.items ≡ l.core;
  room : l.cores ≤ vec_capacity l.slots;
  slots : (core : ℕ) (s : CoreSlot Plain) → slice_get l.slots.items core ≡ Some s → IsFirstSlot l.image l.cores core s;
}
