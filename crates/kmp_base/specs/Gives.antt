-- What a function that reads answers, against what reading gives. Want of memory says nothing of what is read.
use Rattle.std.specs.Prelude.{◌≡◌, ℕ, Result, Ok, Err}
use Rattle.kmp_base.specs.declared.fault.Fault.{Fault}
use Rattle.kmp_base.specs.declared.fault.Fault.TheVariants.{Memory, Cause}
use Rattle.kmp_base.specs.declared.fault.FaultAt.{FaultAt}
use Rattle.kmp_base.specs.declared.fault.FaultAt.TheVariants as located

-- an answer is what reading gives, its value seen by a view, where no memory is taken
abbrev pub Returns : {X Y E : Type 0} → (X → Y) → Result X E → Result Y E → Type 0
Returns view (Ok x) reading = reading ≡ Ok (view x)
Returns view (Err cause) reading = reading ≡ Err cause

-- a fault is that of the reading, its cause seen by view
abbrev pub FailsAs : {E C Y : Type 0} → (E → C) → Fault E → Result Y C → Type 0
FailsAs view Memory reading = Unit {0}
FailsAs view (Cause cause) reading = reading ≡ Err (view cause)

-- an answer is what reading gives, its value and its cause each seen by a view
abbrev pub GivesAs : {X Y E C : Type 0} → (X → Y) → (E → C) → Result X (Fault E) → Result Y C → Type 0
GivesAs view view_cause (Ok x) reading = reading ≡ Ok (view x)
GivesAs view view_cause (Err fault) reading = FailsAs view_cause fault reading

-- the same where the causes are those of the reading as they are
abbrev pub Fails : {E Y : Type 0} → Fault E → Result Y E → Type 0
Fails fault reading = FailsAs (λ cause. cause) fault reading

abbrev pub Gives : {X Y E : Type 0} → (X → Y) → Result X (Fault E) → Result Y E → Type 0
Gives view result reading = GivesAs view (λ cause. cause) result reading

-- the same where the reading of a whole text tells where it is wrong
abbrev pub FailsAt : {C Y : Type 0} → FaultAt C → Result Y (C × ℕ) → Type 0
FailsAt located.Memory reading = Unit {0}
FailsAt (located.At cause place) reading = reading ≡ Err (cause, place)

abbrev pub GivesAt : {X Y C : Type 0} → (X → Y) → Result X (FaultAt C) → Result Y (C × ℕ) → Type 0
GivesAt view (Ok x) reading = reading ≡ Ok (view x)
GivesAt view (Err fault) reading = FailsAt fault reading
