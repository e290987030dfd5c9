-- What reading an input to its end leaves.
use Rattle.std.specs.Prelude.{◌≡◌, ℕ, ◌+◌, ◌≤◌, List, Option, length, Result, Ok, Err, Vec}
use Rattle.std.specs.declared.alloc.Global.{Global}
use Rattle.kmp_base.specs.Streams.{IsSpent, Took, Rose}
use Rattle.kmp_base.specs.declared.transfer.InputFault.{InputFault}
use Rattle.kmp_base.specs.declared.transfer.InputFault.TheVariants as faults

-- Ok: all that was left was taken, no more than the limit.
-- TooLong: one byte more than the limit was taken, and the rest is left.
-- Failed: some bytes were taken, no more than the limit.
-- Memory: some bytes were taken, at most one more than the limit.
abbrev pub Reads : Option (List ℕ) → Option (List ℕ) → ℕ → Result (Vec ℕ Global) InputFault → Type 0
Reads old new limit (Ok bytes) = Took old new bytes.items × IsSpent new × (length bytes.items ≤ limit)
Reads old new limit (Err faults.TooLong) = (bytes : List ℕ) × Took old new bytes × (length bytes ≡ limit + 1)
Reads old new limit (Err faults.Failed) = (bytes : List ℕ) × Took old new bytes × (length bytes ≤ limit)
Reads old new limit (Err faults.Memory) = (bytes : List ℕ) × Took old new bytes × (length bytes ≤ limit + 1)

-- the count rose where the answer is Failed, and else it stands
abbrev pub HasReadCause : ℕ → ℕ → Result (Vec ℕ Global) InputFault → Type 0
HasReadCause before now (Err faults.Failed) = Rose before now
HasReadCause before now result = now ≡ before

-- A call that was to read an input to its end: the bytes that it took, and when it may fail.
pub record ReadsInput {S : Type 0} (left : S → Option (List ℕ)) (faults : S → ℕ) (old new : S) (limit : ℕ)
    (result : Result (Vec ℕ Global) InputFault) : Type 0 where
  pub bytes : Reads (left old) (left new) limit result
  pub cause : HasReadCause (faults old) (faults new) result
  pub later : faults old ≤ faults new
