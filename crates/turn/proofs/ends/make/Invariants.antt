use Rattle.std.proofs.Common.{◌≡◌, ℕ, suc, ◌+◌, ◌≤◌, vec_len, vec_capacity, Some}
use Rattle.std.specs.Prelude.{slice_get}
use Rattle.turn.specs.Numbers.{no_numbers}
use Rattle.turn.specs.Views.{counted}
use Rattle.turn.proofs.Opening.{Waits, IsFirstSeat}
use Rattle.turn.proofs.ends.make.Given as goal

abbrev pub invariant-loop-core : goal.invariant-loop-core
invariant-loop-core g l =
    let key = l.lock.table.shared.key.value in
    record {
      lock : l.seat.table_id ≡ l.lock.table.shared.table_id;
      left : (n : ℕ) × ((l.core + suc n ≡ l.cores)
          × Waits key (counted (g.M.MemoryCore.view key.memory) no_numbers) l.core (suc n) l.seat.me);
      count : vec_len l.passes ≡ l.core;
      room : l.cores ≤ vec_capacity l.passes;
      made : (core : ℕ) (p : _) → slice_get l.passes.items core ≡ Some p
          → IsFirstSeat (record { lock = l.lock }) core p.seat.table_id p.core p.seat.me.0;
    }
