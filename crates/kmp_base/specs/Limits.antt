-- What the numbers of a setup may be.
use Rattle.std.specs.Prelude.{◌≡◌, ℕ, ◌^◌, ◌≤◌}
use Rattle.kmp_base.specs.declared.setup.Setup.{Setup}
use Rattle.kmp_base.specs.declared.setup.TheConstants.{MOST_CORES, MOST_BUDGET, MOST_SETS, MOST_WAYS}

pub record IsWithinLimits (setup : Setup) : Type 0 where
  pub some_cores : 1 ≤ setup.cores
  pub cores : setup.cores ≤ MOST_CORES
  pub some_budget : 1 ≤ setup.budget
  pub budget : setup.budget ≤ MOST_BUDGET
  pub power_of_two : (k : ℕ) × (setup.sets ≡ 2 ^ k)
  pub sets : setup.sets ≤ MOST_SETS
  pub some_ways : 1 ≤ setup.ways
  pub ways : setup.ways ≤ MOST_WAYS
