-- The calls of a core's run.
use Rattle.std.specs.Prelude.{◌≡◌, ℕ, ◌+◌, ◌==◌, Some, List, length, slice_get, flat_map}
use Rattle.mem_port.specs.Calls.{Call, Lead}
use Rattle.core_run.specs.Running.{AreOfCycle}

-- The calls of a core's whole run lead from one state to another: those of so many cycles, one after the other, each with its
-- number, from 1, as its choice, and with the last one those of the core's end.
pub record HasRun {S : Type 0} (makes : Call → S → S → Type 0) (core cycles : ℕ) (old new : S) : Type 0 where
  pub calls : List (List Call)
  pub count : length calls ≡ cycles
  pub are : (n : ℕ) (those : List Call) → slice_get calls n ≡ Some those → AreOfCycle core (n + 1) (n + 1 == cycles) those
  pub lead : Lead makes (flat_map (λ those. those) calls) old new
