use Rattle.std.proofs.Common.{◌≡◌, ◌≤◌, ◌++◌, ℕ, Some, length, vec_len, vec_capacity}
use Rattle.std.specs.Prelude.{slice_get}
use Rattle.std.specs.List.{All}
use Rattle.std.specs.Vec.Iter.{into_iter_items}
use Rattle.timetable.specs.declared.CoreEnd.{CoreEnd}
use Rattle.timetable.specs.Outcome.{IsState}
use Rattle.core_run.specs.Outcomes.{IsEndOf}
use Rattle.core_run.specs.declared.serial.CoreSlot.{CoreSlot}
use Rattle.core_run.proofs.serial.gather.Given as goal

abbrev pub invariant-loop-slot : goal.invariant-loop-slot
invariant-loop-slot g l = record {
  rest : l.fn.slots.items ≡ l.yielded ++ into_iter_items l.slot-iterator;
  count : length l.ends.items ≡ length l.yielded;
  room : vec_len l.fn.slots ≤ vec_capacity l.ends;
  ends : (core : ℕ) (ended : CoreEnd) → slice_get l.ends.items core ≡ Some ended
      → (s : CoreSlot g.row.E.Denot)
      × ((slice_get l.yielded core ≡ Some s) × IsEndOf (g.E.CoreEngine.view s.engine) (g.E.TimedEngine.rows s.engine) s.end s.cycles ended);
  states : All (λ (ended : CoreEnd). IsState ended.state) l.ends.items;
}
