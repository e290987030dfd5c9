-- What a call of a program answers and leaves.
use Rattle.std.specs.Prelude.{◌≡◌, ◌⊎◌, ℕ, List, [], Option, Result, Ok, Err}
use Rattle.kmp_base.specs.Streams.{Rose, Writes}
use Rattle.kmp_base.specs.declared.transfer.WriteFault.{WriteFault}
use Rattle.kmp_base.specs.declared.setup.Setup.{Setup}
use Rattle.image_file.specs.Value.{ImageValue}
use Rattle.report_text.specs.Report.{ReportValue}
use Rattle.report_text.specs.Text.{report_text}
use Rattle.kmp_words.specs.Input.{limit_of, ReadsAll}
use Rattle.kmp_words.specs.declared.input.Input.TheVariants as inputs
use Rattle.kmp_words.specs.declared.input.LoadFault.{LoadFault}
use Rattle.kmp_words.specs.declared.input.LoadFault.TheVariants as loads
use Rattle.kmp_words.specs.declared.input.Refusal.{Refusal}
use Rattle.kmp_words.specs.declared.order.Order.{Order}
use Rattle.kmp_words.specs.declared.order.Order.TheVariants as orders
use Rattle.kmp_call.specs.Refused.{refusal_row}
use Rattle.kmp_call.specs.Right.{IsReportOf}
use Rattle.kmp_call.specs.Status.{status_of, after_write}
use Rattle.kmp_call.specs.declared.status.Status.{Status}
use Rattle.kmp_call.specs.declared.status.Status.TheVariants as statuses

-- What is due for an input that means no image: the row of its refusal.
abbrev pub IsRefusalDue : Refusal → List ℕ → Status → Type 0
IsRefusalDue refusal text due = (text ≡ refusal_row refusal) × (due ≡ statuses.InputRefused refusal)

-- What is due for the run of what was loaded: the text of a right report and the status of its ends, or the row of the
-- refusal.
abbrev pub IsRunDue : Setup → Result ImageValue Refusal → List ℕ → Status → Type 0
IsRunDue setup (Ok image) text due =
    (report : ReportValue) × IsReportOf setup image report × (text ≡ report_text report) × (due ≡ status_of report)
IsRunDue setup (Err refusal) text due = IsRefusalDue refusal text due

-- A text was written, and the status is the one that is due, or a write fault.
pub record Answers {K : Type 0} (held : K → Option (List ℕ)) (faults : K → ℕ) (old new : K) (text : List ℕ) (due status : Status) : Type 0
  where
    pub result : Result (Unit {0}) WriteFault
    pub writes : Writes held faults old new result text
    pub status_is : status ≡ after_write due result

-- What is due was written.
pub record Finishes {K : Type 0} (held : K → Option (List ℕ)) (faults : K → ℕ) (old new : K) (IsDue : List ℕ → Status → Type 0)
    (status : Status) : Type 0 where
  pub text : List ℕ
  pub due : Status
  pub is_due : IsDue text due
  pub answers : Answers held faults old new text due status

-- Want of memory, before anything was written.
pub record RunsOut {K : Type 0} (old new : K) (status : Status) : Type 0 where
  pub sink_kept : new ≡ old
  pub status_is : status ≡ statuses.NoMemory

-- How a call ends whose input has no program: its refusal was written, or nothing, where a read failed or memory ran out.
abbrev pub EndsUnloaded : {K : Type 0} → (K → Option (List ℕ)) → (K → ℕ) → LoadFault → K → K → Status → Type 0
EndsUnloaded held faults (loads.Refused refusal) old new status =
    Answers held faults old new (refusal_row refusal) (statuses.InputRefused refusal) status
EndsUnloaded held faults loads.Read old new status = (new ≡ old) × (status ≡ statuses.ReadFault)
EndsUnloaded held faults loads.Memory old new status = RunsOut old new status

-- the most bytes of a report that is checked
abbrev pub report_limit : ℕ
report_limit = 268435456

-- the most bytes of an order's input; a trial has none
abbrev pub input_limit : Order → ℕ
input_limit (orders.Run setup input) = limit_of input
input_limit (orders.Asm memory_lines) = limit_of (inputs.Source memory_lines)
input_limit orders.Replay = report_limit
input_limit (orders.Trial setup size) = 0

-- An input was read without a fault, and what is due for its bytes was written.
pub record Fulfils {S K : Type 0} (left : S → Option (List ℕ)) (read_faults : S → ℕ) (held : K → Option (List ℕ)) (write_faults : K → ℕ)
    (limit : ℕ) (IsDue : List ℕ → List ℕ → Status → Type 0) (source source' : S) (sink sink' : K) (status : Status) : Type 0 where
  pub bytes : List ℕ
  pub reads : ReadsAll limit (left source) (left source') bytes
  pub no_fault : read_faults source' ≡ read_faults source
  pub finishes : Finishes held write_faults sink sink' (IsDue bytes) status

-- A read failed, and nothing was written.
pub record FailsToRead {S K : Type 0} (read_faults : S → ℕ) (source source' : S) (sink sink' : K) (status : Status) : Type 0 where
  pub cause : Rose (read_faults source) (read_faults source')
  pub sink_kept : sink' ≡ sink
  pub status_is : status ≡ statuses.ReadFault

-- Memory ran out, no read had failed, and nothing was written.
pub record LacksMemory {S K : Type 0} (read_faults : S → ℕ) (source source' : S) (sink sink' : K) (status : Status) : Type 0 where
  pub no_fault : read_faults source' ≡ read_faults source
  pub out : RunsOut sink sink' status

-- An order isn't fulfilled: a read failed, or memory ran out.
abbrev pub IsUnfulfilled : {S K : Type 0} → (S → ℕ) → S → S → K → K → Status → Type 0
IsUnfulfilled read_faults source source' sink sink' status =
    FailsToRead read_faults source source' sink sink' status ⊎ LacksMemory read_faults source source' sink sink' status

-- How an order ends: it is fulfilled, or a read failed, or memory ran out. There is no other case.
abbrev pub Ends : {S K : Type 0} → (S → Option (List ℕ)) → (S → ℕ) → (K → Option (List ℕ)) → (K → ℕ) → ℕ → (List ℕ → List ℕ → Status
    → Type 0) → S → S → K → K → Status → Type 0
Ends left read_faults held write_faults limit IsDue source source' sink sink' status =
    Fulfils left read_faults held write_faults limit IsDue source source' sink sink' status
    ⊎ IsUnfulfilled read_faults source source' sink sink' status

-- An order is fulfilled: what is due for its input was written. A trial reads nothing.
abbrev pub FulfilsOrder : {S K : Type 0} → (S → Option (List ℕ)) → (S → ℕ) → (K → Option (List ℕ)) → (K → ℕ)
    → (Order → List ℕ → List ℕ → Status → Type 0) → Order → S → S → K → K → Status → Type 0
FulfilsOrder left read_faults held write_faults IsDue (orders.Trial setup size) source source' sink sink' status =
    (source' ≡ source) × Finishes held write_faults sink sink' (IsDue (orders.Trial setup size) []) status
FulfilsOrder left read_faults held write_faults IsDue order source source' sink sink' status =
    Fulfils left read_faults held write_faults (input_limit order) (IsDue order) source source' sink sink' status

-- How an order ends: as one that reads its input, or, as a trial, without reading; then memory may still run out.
abbrev pub EndsOrder : {S K : Type 0} → (S → Option (List ℕ)) → (S → ℕ) → (K → Option (List ℕ)) → (K → ℕ)
    → (Order → List ℕ → List ℕ → Status → Type 0) → Order → S → S → K → K → Status → Type 0
EndsOrder left read_faults held write_faults IsDue (orders.Trial setup size) source source' sink sink' status =
    (source' ≡ source) × (Finishes held write_faults sink sink' (IsDue (orders.Trial setup size) []) status ⊎ RunsOut sink sink' status)
EndsOrder left read_faults held write_faults IsDue order source source' sink sink' status =
    Ends left read_faults held write_faults (input_limit order) (IsDue order) source source' sink sink' status
