-- The lines of its source that a call tells: those at which a delay slot has only the first word of an `li` or `la`.
use Rattle.std.specs.Prelude.{◌≡◌, ◌⊎◌, ℕ, List, [], Option, Result, Ok}
use Rattle.kmp_words.specs.Loaded.{LoadedValue, split_in}
use Rattle.kmp_words.specs.Input.{ReadsMeaning}
use Rattle.kmp_words.specs.declared.input.Input.{Input}
use Rattle.kmp_words.specs.declared.input.Input.TheVariants as inputs
use Rattle.kmp_words.specs.declared.input.Refusal.{Refusal}
use Rattle.kmp_words.specs.declared.fault.WordFault.{WordFault}
use Rattle.kmp_words.specs.declared.order.Order.{Order}
use Rattle.kmp_words.specs.declared.order.Order.TheVariants as orders
use Rattle.kmp_call.specs.declared.status.Status.{Status}
use Rattle.kmp_call.specs.Outcome.{IsUnfulfilled}

-- An input was read without a fault, and the lines are those of the program that it means.
pub record TellsMeaning {S : Type 0} (left : S → Option (List ℕ)) (faults : S → ℕ) (input : Input) (source source' : S) (lines : List ℕ)
    : Type 0 where
  pub meaning : Result LoadedValue Refusal
  pub reads : ReadsMeaning left faults source source' input meaning
  pub lines_are : lines ≡ split_in meaning

-- Where a read failed or memory ran out, there may be no line.
abbrev pub TellsInput : {S K : Type 0} → (S → Option (List ℕ)) → (S → ℕ) → Input → S → S → K → K → Status → List ℕ → Type 0
TellsInput left faults input source source' sink sink' status lines =
    TellsMeaning left faults input source source' lines ⊎ (IsUnfulfilled faults source source' sink sink' status × (lines ≡ []))

-- The lines that a call tells whose words have this meaning. Without a source there is none.
abbrev pub Tells : {S K : Type 0} → (S → Option (List ℕ)) → (S → ℕ) → Result Order WordFault → S → S → K → K → Status → List ℕ
    → Type 0
Tells left faults (Ok (orders.Run setup input)) source source' sink sink' status lines =
    TellsInput left faults input source source' sink sink' status lines
Tells left faults (Ok (orders.Asm memory_lines)) source source' sink sink' status lines =
    TellsInput left faults (inputs.Source memory_lines) source source' sink sink' status lines
Tells left faults other source source' sink sink' status lines = lines ≡ []
