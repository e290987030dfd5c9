-- A call whose words ask for an order is that order, carried out.
use Rattle.std.proofs.Common.{◌≡◌, ℕ, List}
use Rattle.std.specs.Prelude.{Option, Result, Ok, Err, IfOk, MatchResult}
use Rattle.kmp_words.specs.declared.fault.WordFault.{WordFault}
use Rattle.kmp_words.specs.declared.order.Order.{Order}
use Rattle.kmp_call.specs.Call.{IsCall}
use Rattle.kmp_call.specs.Outcome.{EndsOrder}
use Rattle.kmp_call.specs.Status.{IsOfInput}
use Rattle.kmp_call.specs.Told.{Tells}
use Rattle.kmp_call.specs.declared.status.Status.{Status}
use Rattle.kmp_call.proofs.CallLaws.{obeyed_call}

module _ {S K W : Type 0} (left : S → Option (List ℕ)) (read_faults : S → ℕ) (meaning : W → Result Order WordFault) (source source' : S)
    (sink sink' : K) (status : Status) (order : Order) where
  pub obeyed_words : (held : K → Option (List ℕ)) (write_faults : K → ℕ) (IsDue : Order → List ℕ → List ℕ → Status → Type 0)
      → ((bytes text : List ℕ) (due : Status) → IsDue order bytes text due → IsOfInput due)
      → EndsOrder left read_faults held write_faults IsDue order source source' sink sink' status
      → (words : Result W Status) → MatchResult words (λ w. meaning w ≡ Ok order) (λ given. ⊥)
      → IfOk words (λ w. IsCall left read_faults held write_faults IsDue (meaning w) source source' sink sink' status)
  obeyed_words held write_faults IsDue of_input ends (Ok w) means =
      rw means (obeyed_call left read_faults held write_faults IsDue source source' sink sink' status order of_input ends)
  obeyed_words held write_faults IsDue of_input ends (Err given) none = tt

  pub told_words : (lines : List ℕ) → Tells left read_faults (Ok order) source source' sink sink' status lines
      → (words : Result W Status) → MatchResult words (λ w. meaning w ≡ Ok order) (λ given. ⊥)
      → IfOk words (λ w. Tells left read_faults (meaning w) source source' sink sink' status lines)
  told_words lines tells (Ok w) means = rw means tells
  told_words lines tells (Err given) none = tt
