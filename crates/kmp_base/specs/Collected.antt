-- What a sink holds that collects.
use Rattle.std.specs.Prelude.{ℕ, List, Option}
use Rattle.std.specs.Io.KnownBytes.{append_known}
use Rattle.kmp_base.specs.declared.collected.Collected.{Collected}

-- what is held beneath, and behind it the bytes that wait
abbrev pub with_waiting : {K : Type 0} → (K → Option (List ℕ)) → Collected K → Option (List ℕ)
with_waiting held collected = append_known (held collected.sink) collected.waiting.items

-- the faults are those beneath
abbrev pub faults_beneath : {K : Type 0} → (K → ℕ) → Collected K → ℕ
faults_beneath faults collected = faults collected.sink
