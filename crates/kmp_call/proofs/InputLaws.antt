-- How an order ends whose input was read for its program.
use Rattle.std.proofs.Common.{◌⊎◌, ℕ, List, [], refl, inl, inr}
use Rattle.std.specs.Prelude.{Option, Result, Err}
use Rattle.image_file.specs.Value.{ImageValue}
use Rattle.kmp_words.specs.Input.{limit_of, meaning_of, ReadsMeaning, Loads}
use Rattle.kmp_words.specs.Loaded.{LoadedValue, image_in}
use Rattle.kmp_words.specs.declared.input.Input.{Input}
use Rattle.kmp_words.specs.declared.input.LoadFault.{LoadFault}
use Rattle.kmp_words.specs.declared.input.LoadFault.TheVariants as loads
use Rattle.kmp_words.specs.declared.input.Refusal.{Refusal}
use Rattle.kmp_call.specs.Outcome.{Finishes, RunsOut, Ends, IsRefusalDue, EndsUnloaded}
use Rattle.kmp_call.specs.Refused.{refusal_row}
use Rattle.kmp_call.specs.Told.{TellsInput}
use Rattle.kmp_call.specs.declared.status.Status.{Status}
use Rattle.kmp_call.specs.declared.status.Status.TheVariants.{InputRefused}

module _ {S K : Type 0} (left : S → Option (List ℕ)) (read_faults : S → ℕ) (held : K → Option (List ℕ)) (faults : K → ℕ) (input : Input)
    (source source' : S) (sink sink' : K) (status : Status) where
  module _ (IsDue : Result ImageValue Refusal → List ℕ → Status → Type 0) where
    abbrev EndsInput : Type 0
    EndsInput =
        Ends left read_faults held faults (limit_of input) (λ bytes. IsDue (image_in (meaning_of input bytes))) source source' sink sink' status

    pub meaning_ends : (meaning : Result LoadedValue Refusal) → ReadsMeaning left read_faults source source' input meaning
        → Finishes held faults sink sink' (IsDue (image_in meaning)) status ⊎ RunsOut sink sink' status → EndsInput
    meaning_ends meaning reads (inl finishes) = inl (record {
      bytes = reads.bytes;
      reads = reads.reads;
      no_fault = reads.no_fault;
      finishes = rw reads.means finishes;
    })
    meaning_ends meaning reads (inr out) = inr (inr (record { no_fault = reads.no_fault; out = out }))

    pub unloaded_ends : ((refusal : Refusal) (text : List ℕ) (due : Status) → IsRefusalDue refusal text due → IsDue (Err refusal) text due)
        → (fault : LoadFault) → Loads left read_faults source source' input (Err fault)
        → EndsUnloaded held faults fault sink sink' status → EndsInput
    unloaded_ends is_due (loads.Refused refusal) reads answers = meaning_ends (Err refusal) reads (inl (record {
      text = refusal_row refusal;
      due = InputRefused refusal;
      is_due = is_due refusal (refusal_row refusal) (InputRefused refusal) (refl, refl);
      answers = answers;
    }))
    unloaded_ends is_due loads.Read cause ended = inr (inl (record { cause = cause; sink_kept = ended.0; status_is = ended.1 }))
    unloaded_ends is_due loads.Memory no_fault out = inr (inr (record { no_fault = no_fault; out = out }))

  pub unloaded_tells : (fault : LoadFault) → Loads left read_faults source source' input (Err fault)
      → EndsUnloaded held faults fault sink sink' status → TellsInput left read_faults input source source' sink sink' status []
  unloaded_tells (loads.Refused refusal) reads answers = inl (record { meaning = Err refusal; reads = reads; lines_are = refl })
  unloaded_tells loads.Read cause ended = inr (inl (record { cause = cause; sink_kept = ended.0; status_is = ended.1 }), refl)
  unloaded_tells loads.Memory no_fault out = inr (inr (record { no_fault = no_fault; out = out }), refl)
