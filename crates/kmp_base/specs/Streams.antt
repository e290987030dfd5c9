-- What calls do to the bytes that a source has left and that a sink holds, where these are told,
-- and when a fault may be answered.
use Rattle.std.specs.Prelude.{◌≡◌, ℕ, ◌+◌, ◌-◌, ◌^◌, ◌≤◌, min, List, [], ◌++◌, ⊤, Option, IfSome, Result, OnOk, OnErr}
use Rattle.std.specs.Io.KnownBytes.{prepend_known, append_known}
use Rattle.kmp_base.specs.declared.streams.Read.{Read}
use Rattle.kmp_base.specs.declared.streams.Read.TheVariants as reads
use Rattle.kmp_base.specs.declared.streams.Wrote.{Wrote}
use Rattle.kmp_base.specs.declared.streams.Wrote.TheVariants as writes

-- a fact of the number of bytes that a read gave
abbrev pub IfGot : Read → (ℕ → Type 0) → Type 0
IfGot (reads.Got n) P = P n
IfGot reads.Failed P = ⊤

-- a fact where a read failed
abbrev pub OnReadFailed : Read → Type 0 → Type 0
OnReadFailed (reads.Got n) P = ⊤
OnReadFailed reads.Failed P = P

-- a fact of the number of bytes that a write took
abbrev pub IfTook : Wrote → (ℕ → Type 0) → Type 0
IfTook (writes.Took n) P = P n
IfTook writes.Failed P = ⊤

-- a fact where a write failed
abbrev pub OnWriteFailed : Wrote → Type 0 → Type 0
OnWriteFailed (writes.Took n) P = ⊤
OnWriteFailed writes.Failed P = P

-- a count of 64 bits after one more, which stops at its last value
abbrev pub next_count : ℕ → ℕ
next_count n = min (n + 1) (2 ^ 64 - 1)

-- the count has risen, or stands at its end
abbrev pub Rose : ℕ → ℕ → Type 0
Rose before now = next_count before ≤ now

-- nothing is left, where that is told
abbrev pub IsSpent : Option (List ℕ) → Type 0
IsSpent left = IfSome left (λ bytes. bytes ≡ [])

-- nothing is held, where that is told
abbrev pub HoldsNothing : Option (List ℕ) → Type 0
HoldsNothing held = IfSome held (λ bytes. bytes ≡ [])

-- the bytes are what was taken from the front of what was left
abbrev pub Took : Option (List ℕ) → Option (List ℕ) → List ℕ → Type 0
Took old new bytes = old ≡ prepend_known bytes new

-- the text was appended to what was held
abbrev pub Appended : Option (List ℕ) → Option (List ℕ) → List ℕ → Type 0
Appended old new text = new ≡ append_known old text

-- some front of the text was appended to what was held
abbrev pub AppendedPart : Option (List ℕ) → Option (List ℕ) → List ℕ → Type 0
AppendedPart old new text = (part rest : List ℕ) × (text ≡ part ++ rest) × Appended old new part

-- A call that was to append the text: all of it at Ok, without a fault; a front of it at Err, where
-- the count rose.
pub record Writes {K T E : Type 0} (held : K → Option (List ℕ)) (faults : K → ℕ) (old new : K) (result : Result T E) (text : List ℕ) : Type
    0 where
  pub whole : OnOk result (Appended (held old) (held new) text)
  pub no_fault : OnOk result (faults new ≡ faults old)
  pub part : OnErr result (AppendedPart (held old) (held new) text)
  pub cause : OnErr result (Rose (faults old) (faults new))
  pub later : faults old ≤ faults new
