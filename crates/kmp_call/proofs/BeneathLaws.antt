-- An order that was carried out over a sink that collects, which was put then, is that order carried out over the sink beneath.
use Rattle.std.proofs.Common.{◌≡◌, ◌∙◌, ℕ, List, [], refl, ap, inl, inr}
use Rattle.std.proofs.lemmas.Bool.{false≢true}
use Rattle.std.specs.Prelude.{Option, Result, Ok, Err, IsOk}
use Rattle.kmp_base.specs.Bind.{◌>>=◌}
use Rattle.kmp_base.specs.Streams.{HoldsNothing}
use Rattle.kmp_base.specs.Collected.{with_waiting, faults_beneath}
use Rattle.kmp_base.specs.declared.collected.Collected.{Collected}
use Rattle.kmp_base.proofs.CollectedLaws.{writes_beneath}
use Rattle.kmp_words.specs.declared.input.Input.{Input}
use Rattle.kmp_words.specs.declared.input.Input.TheVariants as inputs
use Rattle.kmp_words.specs.declared.order.Order.{Order}
use Rattle.kmp_words.specs.declared.order.Order.TheVariants as orders
use Rattle.kmp_call.specs.Call.{IsPut}
use Rattle.kmp_call.specs.Outcome.{Answers, Finishes, RunsOut, IsUnfulfilled, Ends, EndsOrder}
use Rattle.kmp_call.specs.Status.{after_write}
use Rattle.kmp_call.specs.Told.{TellsInput, Tells}
use Rattle.kmp_call.specs.declared.status.Status.{Status}

-- a fault of the call or of the put behind it is one of both
after_both : {T U E : Type 0} (due : Status) (called : Result T E) (put : Result U E)
    → after_write (after_write due called) put ≡ after_write due (called >>= (λ _. put))
after_both due (Ok _) put = refl
after_both due (Err _) (Ok _) = refl
after_both due (Err _) (Err _) = refl

-- without a fault of the put the status stands
after_ok : {T E : Type 0} (status : Status) (put : Result T E) → IsOk put → after_write status put ≡ status
after_ok status (Ok _) is = refl
after_ok status (Err _) is = absurd (false≢true is)

-- The sink that collects was made over one that held nothing.
module _ {S K : Type 0} (left : S → Option (List ℕ)) (read_faults : S → ℕ) (held : K → Option (List ℕ)) (faults : K → ℕ)
    (source source' : S) (old new : Collected K) (first sink : K) (status status' : Status) (is : old.sink ≡ first)
    (nothing : HoldsNothing (held first)) (empty : old.waiting.items ≡ []) (put : IsPut held faults new sink status status') where
  answers_beneath : (text : List ℕ) (due : Status) → Answers (with_waiting held) (faults_beneath faults) old new text due status
      → Answers held faults first sink text due status'
  answers_beneath text due answers =
      let beneath : Answers held faults old.sink sink text due status' = record {
        result = answers.result >>= (λ _. put.result);
        writes = writes_beneath held faults old new sink answers.result put.result text (rw is nothing) empty answers.writes put.writes;
        status_is = put.status_is ∙ ap (λ s. after_write s put.result) answers.status_is ∙ after_both due answers.result put.result;
      } in
      rw is at beneath

  finishes_beneath : (IsDue : List ℕ → Status → Type 0) → Finishes (with_waiting held) (faults_beneath faults) old new IsDue status
      → Finishes held faults first sink IsDue status'
  finishes_beneath IsDue finishes = record {
    text = finishes.text;
    due = finishes.due;
    is_due = finishes.is_due;
    answers = answers_beneath finishes.text finishes.due finishes.answers;
  }

  -- where nothing was written, nothing was collected, and the status stands
  unwritten_beneath : new ≡ old → (sink ≡ first) × (status' ≡ status)
  unwritten_beneath kept =
      let none = put.no_call (ap (λ (c : Collected K). c.waiting.items) kept ∙ empty) in
      (none.1 ∙ ap (λ (c : Collected K). c.sink) kept ∙ is, put.status_is ∙ after_ok status put.result none.0)

  out_beneath : RunsOut old new status → RunsOut first sink status'
  out_beneath out = let none = unwritten_beneath out.sink_kept in record { sink_kept = none.0; status_is = none.1 ∙ out.status_is }

  unfulfilled_beneath : IsUnfulfilled read_faults source source' old new status → IsUnfulfilled read_faults source source' first sink status'
  unfulfilled_beneath failed = elim failed [
    | inl read ↦ inl (let none = unwritten_beneath read.sink_kept in record {
      cause = read.cause;
      sink_kept = none.0;
      status_is = none.1 ∙ read.status_is;
    })
    | inr lack ↦ inr (record { no_fault = lack.no_fault; out = out_beneath lack.out })
  ]

  ends_beneath : (limit : ℕ) (IsDue : List ℕ → List ℕ → Status → Type 0)
      → Ends left read_faults (with_waiting held) (faults_beneath faults) limit IsDue source source' old new status
      → Ends left read_faults held faults limit IsDue source source' first sink status'
  ends_beneath limit IsDue ends = elim ends [
    | inl done ↦ inl (record {
      bytes = done.bytes;
      reads = done.reads;
      no_fault = done.no_fault;
      finishes = finishes_beneath (IsDue done.bytes) done.finishes;
    })
    | inr failed ↦ inr (unfulfilled_beneath failed)
  ]

  pub order_beneath : (IsDue : Order → List ℕ → List ℕ → Status → Type 0) (order : Order)
      → EndsOrder left read_faults (with_waiting held) (faults_beneath faults) IsDue order source source' old new status
      → EndsOrder left read_faults held faults IsDue order source source' first sink status'
  order_beneath IsDue (orders.Run setup input) ends = ends_beneath _ (IsDue (orders.Run setup input)) ends
  order_beneath IsDue (orders.Asm memory_lines) ends = ends_beneath _ (IsDue (orders.Asm memory_lines)) ends
  order_beneath IsDue orders.Replay ends = ends_beneath _ (IsDue orders.Replay) ends
  order_beneath IsDue (orders.Trial setup size) (kept, inl finishes) =
      (kept, inl (finishes_beneath (IsDue (orders.Trial setup size) []) finishes))
  order_beneath IsDue (orders.Trial setup size) (kept, inr out) = (kept, inr (out_beneath out))

  input_beneath : (input : Input) (lines : List ℕ) → TellsInput left read_faults input source source' old new status lines
      → TellsInput left read_faults input source source' first sink status' lines
  input_beneath input lines tells = elim tells [
    | inl meaning ↦ inl meaning
    | inr failed ↦ inr (unfulfilled_beneath failed.0, failed.1)
  ]

  pub tells_beneath : (order : Order) (lines : List ℕ) → Tells left read_faults (Ok order) source source' old new status lines
      → Tells left read_faults (Ok order) source source' first sink status' lines
  tells_beneath (orders.Run setup input) lines tells = input_beneath input lines tells
  tells_beneath (orders.Asm memory_lines) lines tells = input_beneath (inputs.Source memory_lines) lines tells
  tells_beneath orders.Replay lines none = none
  tells_beneath (orders.Trial setup size) lines none = none
