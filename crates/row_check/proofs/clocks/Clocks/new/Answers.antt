use Rattle.std.proofs.Common.{refl, arith}
use Rattle.row_check.proofs.ClocksLemmas.{zero-at}
use Rattle.row_check.proofs.clocks.Clocks.new.Goals as goal

pub returns-clause-of : goal.returns-clause-of
returns-clause-of c = record { last = c.no_row.ensures.row; registers = refl; ready = λ register below. zero-at 32 register 0 below }

pub returns-clause-within : goal.returns-clause-within
returns-clause-within c =
    record {
      last = rw c.no_row.ensures.row (record { i = omega arith; f = omega arith; d = omega arith; e = omega arith; m = omega arith });
      ready = λ k d below. (let e = zero-at 32 k d below in rw e (omega arith));
    }
