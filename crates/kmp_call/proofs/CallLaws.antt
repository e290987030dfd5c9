-- What follows for a call from how its order ended, or from the refusal of its words.
use Rattle.std.proofs.Common.{◌≡◌, ◌≢◌, ◌<◌, ◌⊎◌, ℕ, Bool, true, false, List, [], refl, ap, inl, inr, arith}
use Rattle.std.specs.Prelude.{Option, Result, Ok, Err, OnOk, OnErr, if◌then◌else◌}
use Rattle.kmp_base.specs.Streams.{Rose}
use Rattle.kmp_base.specs.declared.setup.Setup.{Setup}
use Rattle.kmp_base.specs.declared.transfer.WriteFault.{WriteFault}
use Rattle.image_file.specs.Value.{ImageValue}
use Rattle.kmp_words.specs.declared.fault.WordFault.{WordFault}
use Rattle.kmp_words.specs.declared.input.Refusal.{Refusal}
use Rattle.kmp_words.specs.declared.order.Order.{Order}
use Rattle.kmp_words.specs.declared.order.Order.TheVariants as orders
use Rattle.kmp_call.specs.Call.{IsCall}
use Rattle.kmp_call.specs.Outcome.{input_limit, Answers, Finishes, RunsOut, Fulfils, FulfilsOrder, Ends, EndsOrder, IsRunDue}
use Rattle.kmp_call.specs.Refused.{word_row}
use Rattle.kmp_call.specs.Status.{code_of, after_write, IsOfInput}
use Rattle.kmp_call.specs.declared.status.Status.{Status}
use Rattle.kmp_call.specs.declared.status.Status.TheVariants as statuses

module _ {K : Type 0} (held : K → Option (List ℕ)) (faults : K → ℕ) (old new : K) (status : Status) where
  by_result : (due : Status) (result : Result (Unit {0}) WriteFault) → OnOk result (faults new ≡ faults old)
      → OnErr result (Rose (faults old) (faults new)) → status ≡ after_write due result
      → ((code_of status ≡ code_of due) × (faults new ≡ faults old)) ⊎ ((code_of status ≡ 5) × Rose (faults old) (faults new))
  by_result due (Ok _) same cause is = inl (ap code_of is, same)
  by_result due (Err _) same cause is = inr (ap code_of is, cause)

  -- the status is the one that is due, or a write failed
  answered : (text : List ℕ) (due : Status) → Answers held faults old new text due status
      → ((code_of status ≡ code_of due) × (faults new ≡ faults old)) ⊎ ((code_of status ≡ 5) × Rose (faults old) (faults new))
  answered text due answers = by_result due answers.result answers.writes.no_fault answers.writes.cause answers.status_is

-- The faults of streams and the status, as a call tells them.
record Told (read read' write write' code : ℕ) : Type 0 where
  pub read_fault : code ≡ 4 → Rose read read'
  pub read_failed : read < read' → code ≡ 4
  pub write_fault : code ≡ 5 → Rose write write'
  pub write_failed : write < write' → code ≡ 5
  pub handed_over : code ≢ 8

module _ (read read' write write' code : ℕ) where
  unfailed : code ≢ 4 → code ≢ 5 → code ≢ 8 → read' ≡ read → write' ≡ write → Told read read' write write' code
  unfailed four five eight unread unwritten = record {
    read_fault = λ is. absurd (four is);
    read_failed = λ rose. absurd (omega (arith, unread, rose));
    write_fault = λ is. absurd (five is);
    write_failed = λ rose. absurd (omega (arith, unwritten, rose));
    handed_over = eight;
  }

  failed_to_write : code ≡ 5 → read' ≡ read → Rose write write' → Told read read' write write' code
  failed_to_write five unread cause = record {
    read_fault = λ is. absurd (omega (arith, five, is));
    read_failed = λ rose. absurd (omega (arith, unread, rose));
    write_fault = λ is. cause;
    write_failed = λ rose. five;
    handed_over = λ is. omega (arith, five, is);
  }

  failed_to_read : code ≡ 4 → Rose read read' → write' ≡ write → Told read read' write write' code
  failed_to_read four cause unwritten = record {
    read_fault = λ is. cause;
    read_failed = λ rose. four;
    write_fault = λ is. absurd (omega (arith, four, is));
    write_failed = λ rose. absurd (omega (arith, unwritten, rose));
    handed_over = λ is. omega (arith, four, is);
  }

module _ {S K : Type 0} (left : S → Option (List ℕ)) (read_faults : S → ℕ) (held : K → Option (List ℕ)) (write_faults : K → ℕ)
    (IsDue : Order → List ℕ → List ℕ → Status → Type 0) (source source' : S) (sink sink' : K) (status : Status) where
  abbrev IsTold : Type 0
  IsTold = Told (read_faults source) (read_faults source') (write_faults sink) (write_faults sink') (code_of status)

  -- a status behind a text, where no read failed
  told_behind : (due : Status) → code_of due ≢ 4 → code_of due ≢ 5 → code_of due ≢ 8 → read_faults source' ≡ read_faults source
      → ((code_of status ≡ code_of due) × (write_faults sink' ≡ write_faults sink))
      ⊎ ((code_of status ≡ 5) × Rose (write_faults sink) (write_faults sink')) → IsTold
  told_behind due four five eight unread behind = elim behind [
    | inl written ↦ unfailed _ _ _ _ _ (rw written.0 four) (rw written.0 five) (rw written.0 eight) unread written.1
    | inr failed ↦ failed_to_write _ _ _ _ _ failed.0 unread failed.1
  ]

  pub refused_call : (fault : WordFault) → source' ≡ source
      → Answers held write_faults sink sink' (word_row fault) (statuses.WordsRefused fault) status
      → IsCall left read_faults held write_faults IsDue (Err fault) source source' sink sink' status
  refused_call fault kept answers =
      let behind = answered held write_faults sink sink' status (word_row fault) (statuses.WordsRefused fault) answers in
      let told = told_behind (statuses.WordsRefused fault) (λ is. omega (arith, is)) (λ is. omega (arith, is)) (λ is. omega (arith, is))
      (ap read_faults kept) behind in
      record {
        refused = (kept, answers);
        obeyed = tt;
        words_refused = λ is. refl;
        refused_words = λ is. elim behind [
          | inl written ↦ inl written.0
          | inr failed ↦ inr failed.0
        ];
        unfulfilled = tt;
        read_fault = told.read_fault;
        read_failed = told.read_failed;
        write_fault = told.write_fault;
        write_failed = told.write_failed;
        unwritten = λ is. absurd (grind (arith, behind, is));
        handed_over = told.handed_over;
      }

  module _ (order : Order) (ends : EndsOrder left read_faults held write_faults IsDue order source source' sink sink' status) where
    finished_call : (bytes : List ℕ) → Finishes held write_faults sink sink' (IsDue order bytes) status
        → FulfilsOrder left read_faults held write_faults IsDue order source source' sink sink' status
        → read_faults source' ≡ read_faults source
        → ((bytes text : List ℕ) (due : Status) → IsDue order bytes text due → IsOfInput due)
        → IsCall left read_faults held write_faults IsDue (Ok order) source source' sink sink' status
    finished_call bytes finishes done no_fault of_input =
        let is_of : IsOfInput finishes.due = of_input bytes finishes.text finishes.due finishes.is_due in
        let behind = answered held write_faults sink sink' status finishes.text finishes.due finishes.answers in
        let told = told_behind finishes.due (λ is. grind (arith, is_of, is)) (λ is. grind (arith, is_of, is))
        (λ is. grind (arith, is_of, is)) no_fault behind in
        record {
          refused = tt;
          obeyed = ends;
          words_refused = λ is. absurd (grind (arith, is_of, behind, is));
          refused_words = λ is. absurd cc;
          unfulfilled = λ none. absurd (none done);
          read_fault = told.read_fault;
          read_failed = told.read_failed;
          write_fault = told.write_fault;
          write_failed = told.write_failed;
          unwritten = λ is. absurd (grind (arith, is_of, behind, is));
          handed_over = told.handed_over;
        }

    unfulfilled_call : (code_of status ≡ 4) ⊎ (code_of status ≡ 6) → sink' ≡ sink → IsTold
        → IsCall left read_faults held write_faults IsDue (Ok order) source source' sink sink' status
    unfulfilled_call code kept told = record {
      refused = tt;
      obeyed = ends;
      words_refused = λ is. absurd (grind (arith, code, is));
      refused_words = λ is. absurd cc;
      unfulfilled = λ none. code;
      read_fault = told.read_fault;
      read_failed = told.read_failed;
      write_fault = told.write_fault;
      write_failed = told.write_failed;
      unwritten = λ is. kept;
      handed_over = told.handed_over;
    }

    lacking_call : read_faults source' ≡ read_faults source → RunsOut sink sink' status
        → IsCall left read_faults held write_faults IsDue (Ok order) source source' sink sink' status
    lacking_call no_fault out =
        let code = ap code_of out.status_is in
        unfulfilled_call (inr code) out.sink_kept
        (unfailed _ _ _ _ _ (λ is. omega (arith, code, is)) (λ is. omega (arith, code, is)) (λ is. omega (arith, code, is)) no_fault
        (ap write_faults out.sink_kept))

  -- an order that reads its input
  reading_call : (order : Order)
      → (Ends left read_faults held write_faults (input_limit order) (IsDue order) source source' sink sink' status
      → EndsOrder left read_faults held write_faults IsDue order source source' sink sink' status)
      → (Fulfils left read_faults held write_faults (input_limit order) (IsDue order) source source' sink sink' status
      → FulfilsOrder left read_faults held write_faults IsDue order source source' sink sink' status)
      → ((bytes text : List ℕ) (due : Status) → IsDue order bytes text due → IsOfInput due)
      → Ends left read_faults held write_faults (input_limit order) (IsDue order) source source' sink sink' status
      → IsCall left read_faults held write_faults IsDue (Ok order) source source' sink sink' status
  reading_call order to_ends to_fulfils of_input (inl done) =
      finished_call order (to_ends (inl done)) done.bytes done.finishes (to_fulfils done) done.no_fault of_input
  reading_call order to_ends to_fulfils of_input (inr (inl read)) =
      let code = ap code_of read.status_is in
      unfulfilled_call order (to_ends (inr (inl read))) (inl code) read.sink_kept
      (failed_to_read _ _ _ _ _ code read.cause (ap write_faults read.sink_kept))
  reading_call order to_ends to_fulfils of_input (inr (inr lack)) =
      lacking_call order (to_ends (inr (inr lack))) lack.no_fault lack.out

  pub obeyed_call : (order : Order) → ((bytes text : List ℕ) (due : Status) → IsDue order bytes text due → IsOfInput due)
      → EndsOrder left read_faults held write_faults IsDue order source source' sink sink' status
      → IsCall left read_faults held write_faults IsDue (Ok order) source source' sink sink' status
  obeyed_call (orders.Run setup input) of_input ends = reading_call (orders.Run setup input) (λ e. e) (λ f. f) of_input ends
  obeyed_call (orders.Asm memory_lines) of_input ends = reading_call (orders.Asm memory_lines) (λ e. e) (λ f. f) of_input ends
  obeyed_call orders.Replay of_input ends = reading_call orders.Replay (λ e. e) (λ f. f) of_input ends
  obeyed_call (orders.Trial setup size) of_input (kept, inl finishes) =
      finished_call (orders.Trial setup size) (kept, inl finishes) [] finishes (kept, finishes) (ap read_faults kept) of_input
  obeyed_call (orders.Trial setup size) of_input (kept, inr out) =
      lacking_call (orders.Trial setup size) (kept, inr out) (ap read_faults kept) out

-- What is due for a run has such a status.
pub run_is_of_input : (setup : Setup) (meaning : Result ImageValue Refusal) (text : List ℕ) (due : Status) → IsRunDue setup meaning text due
    → IsOfInput due
run_is_of_input setup (Ok image) text due is = by_halts _ is.3
  where
    by_halts : (halts : Bool) → due ≡ (if halts then statuses.Done else statuses.OtherEnd) → IsOfInput due
    by_halts true is = inl (ap code_of is)
    by_halts false is = inr (inl (ap code_of is))
run_is_of_input setup (Err refusal) text due is = inr (inr (inl (ap code_of is.1)))
