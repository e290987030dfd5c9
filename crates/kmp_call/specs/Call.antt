-- A call of a program: what it answers and leaves, by what its words ask for.
use Rattle.std.specs.Prelude.{◌≡◌, ◌≢◌, ◌⊎◌, ℕ, ◌<◌, List, [], Option, Result, Ok, Err, IfOk, IfErr, IsOk, IsErr}
use Rattle.kmp_base.specs.Streams.{Rose, Writes}
use Rattle.kmp_base.specs.declared.collected.Collected.{Collected}
use Rattle.kmp_base.specs.declared.transfer.WriteFault.{WriteFault}
use Rattle.kmp_words.specs.declared.fault.WordFault.{WordFault}
use Rattle.kmp_words.specs.declared.order.Order.{Order}
use Rattle.kmp_call.specs.Outcome.{Answers, FulfilsOrder, EndsOrder, RunsOut}
use Rattle.kmp_call.specs.Refused.{word_row}
use Rattle.kmp_call.specs.Status.{code_of, after_write}
use Rattle.kmp_call.specs.declared.status.Status.{Status}
use Rattle.kmp_call.specs.declared.status.Status.TheVariants.{WordsRefused}

-- A call whose words have this meaning. What is due for an order and the bytes of its input, the program says.
pub record IsCall {S K : Type 0} (left : S → Option (List ℕ)) (read_faults : S → ℕ) (held : K → Option (List ℕ)) (write_faults : K → ℕ)
    (IsDue : Order → List ℕ → List ℕ → Status → Type 0) (meaning : Result Order WordFault) (source source' : S) (sink sink' : K)
    (status : Status) : Type 0 where
  -- Words without a meaning: the row of their refusal is due, and the source is untouched.
  pub refused : IfErr meaning (λ fault. (source' ≡ source)
      × Answers held write_faults sink sink' (word_row fault) (WordsRefused fault) status)
  -- An order is fulfilled, or a read failed, or memory ran out. There is no other case.
  pub obeyed : IfOk meaning (λ order. EndsOrder left read_faults held write_faults IsDue order source source' sink sink' status)
  -- Words without a meaning have a status of their own, unless the write failed.
  pub words_refused : code_of status ≡ 2 → IsErr meaning
  pub refused_words : IsErr meaning → (code_of status ≡ 2) ⊎ (code_of status ≡ 5)
  -- An order that isn't fulfilled has one of two.
  pub unfulfilled : IfOk meaning (λ order.
      (FulfilsOrder left read_faults held write_faults IsDue order source source' sink sink' status → ⊥)
      → (code_of status ≡ 4) ⊎ (code_of status ≡ 6))
  -- A fault has its cause, and a cause its fault.
  pub read_fault : code_of status ≡ 4 → Rose (read_faults source) (read_faults source')
  pub read_failed : read_faults source < read_faults source' → code_of status ≡ 4
  pub write_fault : code_of status ≡ 5 → Rose (write_faults sink) (write_faults sink')
  pub write_failed : write_faults sink < write_faults sink' → code_of status ≡ 5
  -- Nothing is written after a failed read or without memory.
  pub unwritten : (code_of status ≡ 4) ⊎ (code_of status ≡ 6) → sink' ≡ sink
  -- The words were handed over.
  pub handed_over : code_of status ≢ 8

-- A call that is over before its order is carried out: its words were refused, or there is no memory to collect what is written.
abbrev pub IsOver : {K : Type 0} → (K → Option (List ℕ)) → (K → ℕ) → Result Order WordFault → K → K → Status → Type 0
IsOver held faults (Err fault) sink sink' status = Answers held faults sink sink' (word_row fault) (WordsRefused fault) status
IsOver held faults (Ok order) sink sink' status = RunsOut sink sink' status

-- What was collected is put beneath, where nothing is put if nothing was collected; the status is the one before, or a write fault.
pub record IsPut {K : Type 0} (held : K → Option (List ℕ)) (faults : K → ℕ) (collected : Collected K) (sink : K) (status status' : Status)
    : Type 0 where
  pub result : Result (Unit {0}) WriteFault
  pub writes : Writes held faults collected.sink sink result collected.waiting.items
  pub no_call : collected.waiting.items ≡ [] → IsOk result × (sink ≡ collected.sink)
  pub status_is : status' ≡ after_write status result
