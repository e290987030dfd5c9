use Rattle.std.proofs.Common.{◌≡◌, ◌≤◌, ◌++◌, ℕ, Some, length, vec_len, vec_capacity}
use Rattle.std.specs.Prelude.{slice_get, map, MatchOption}
use Rattle.std.specs.List.{All}
use Rattle.std.specs.Vec.Iter.{into_iter_items}
use Rattle.timetable.specs.declared.CoreEnd.{CoreEnd}
use Rattle.timetable.specs.Outcome.{IsState}
use Rattle.core_run.specs.Outcomes.{IsEndOf}
use Rattle.turn.specs.Passes.{IsOf, own}
use Rattle.core_threads.specs.Workers.{cores_of}
use Rattle.core_threads.proofs.ends.gather.Given as goal

abbrev pub invariant-loop-worker : goal.invariant-loop-worker
invariant-loop-worker g l = record {
  rest : l.fn.workers.items ≡ l.yielded ++ into_iter_items l.worker-iterator;
  turn : MatchOption l.joined (Unit {0}) (λ p. IsOf l.fn.turn p);
  cores : cores_of l.joined ≡ map (λ w. own w.pass) l.yielded;
  count : length l.ends.items ≡ length l.yielded;
  room : vec_len l.fn.workers ≤ vec_capacity l.ends;
  ends : (core : ℕ) (ended : CoreEnd) → slice_get l.ends.items core ≡ Some ended
      → (w : _) × ((slice_get l.yielded core ≡ Some w)
      × IsEndOf (g.E.CoreEngine.view w.slot.engine) (g.E.TimedEngine.rows w.slot.engine) w.slot.end w.slot.cycles ended);
  states : All (λ (ended : CoreEnd). IsState ended.state) l.ends.items;
}
