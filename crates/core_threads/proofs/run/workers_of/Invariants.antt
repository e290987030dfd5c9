use Rattle.std.proofs.Common.{◌≡◌, ◌≤◌, ◌++◌, vec_len, vec_capacity}
use Rattle.std.specs.Prelude.{map}
use Rattle.std.specs.Vec.Iter.{into_iter_items}
use Rattle.core_threads.proofs.run.workers_of.Given as goal

abbrev pub invariant-loop-slot : goal.invariant-loop-slot
invariant-loop-slot g l = record {
  rest : l.fn.slots.items ≡ l.yielded ++ into_iter_items l.slot-iterator;
  left : l.fn.passes.items ≡ map (λ w. w.pass) l.workers.items ++ into_iter_items l.passes;
  slots : map (λ w. w.slot) l.workers.items ≡ l.yielded;
  room : vec_len l.fn.slots ≤ vec_capacity l.workers;
}
