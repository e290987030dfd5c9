use Rattle.std.proofs.Common.{◌≡◌, ◌≤◌, ℕ, length}
use Rattle.std.specs.Prelude.{Some, slice_get, vec_capacity}
use Rattle.pipe_core.specs.PipeView.{PipeValue}
use Rattle.core_run.specs.declared.serial.CoreSlot.{CoreSlot}
use Rattle.core_run.proofs.PipedLemmas.{IsFirstPiped}
use Rattle.core_run.proofs.piped.pipe_slots.Given as goal

abbrev pub invariant-loop-core : goal.invariant-loop-core
invariant-loop-core l = record {
  count : length l.slots.items ≡ l.core;
  room : l.cores ≤ vec_capacity l.slots;
  slots : (core : ℕ) (s : CoreSlot PipeValue) → slice_get l.slots.items core ≡ Some s → IsFirstPiped l.image l.cores l.budget core s;
}
