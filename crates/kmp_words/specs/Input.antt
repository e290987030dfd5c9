-- What an input means: a program, or a refusal.
use Rattle.std.specs.Prelude.{◌≡◌, ◌⊎◌, ℕ, ◌+◌, ◌≤◌, nat_lt, if◌then◌else◌, List, [], length, Option, Result, Ok, Err}
use Rattle.kmp_base.specs.declared.fault.FaultAt.{FaultAt}
use Rattle.kmp_base.specs.declared.fault.FaultAt.TheVariants as located
use Rattle.kmp_base.specs.Streams.{Took, IsSpent, Rose}
use Rattle.image_file.specs.Reading.{image_meaning}
use Rattle.asm_token.specs.declared.fault.AsmCause.{AsmCause}
use Rattle.asm_parse.specs.declared.statement.Statement.{Statement}
use Rattle.asm_parse.specs.Lines.{statements_of}
use Rattle.asm_layout.specs.DelaySlots.{split_lines}
use Rattle.asm_link.specs.Assembly.{image_of}
use Rattle.kmp_base.specs.Bind.{◌>>=◌}
use Rattle.kmp_words.specs.Loaded.{LoadedValue, value_of}
use Rattle.kmp_words.specs.declared.input.Loaded.{Loaded}
use Rattle.kmp_words.specs.declared.input.Input.{Input}
use Rattle.kmp_words.specs.declared.input.Input.TheVariants as inputs
use Rattle.kmp_words.specs.declared.input.Refusal.{Refusal}
use Rattle.kmp_words.specs.declared.input.Refusal.TheVariants.{TooLong, Asm, Image}
use Rattle.kmp_words.specs.declared.input.LoadFault.{LoadFault}
use Rattle.kmp_words.specs.declared.input.LoadFault.TheVariants as loads

-- the most bytes of an input
abbrev pub limit_of : Input → ℕ
limit_of (inputs.Source memory_lines) = 1048576
limit_of inputs.Image = 17825792

-- a meaning, or a fault that becomes a refusal
abbrev pub or_refused : {A E : Type 0} → (E → Refusal) → Result A E → Result A Refusal
or_refused refusal (Ok meaning) = Ok meaning
or_refused refusal (Err fault) = Err (refusal fault)

-- The program of statements, in a memory of so many lines of 8 bytes.
abbrev pub loaded_of : ℕ → List Statement → Result LoadedValue (AsmCause × ℕ)
loaded_of memory_lines statements = image_of memory_lines statements >>= λ image.
    Ok (record { image = image; split = split_lines statements })

-- The program that bytes mean, as many as there are: that of the statements of a source, or the image that they spell.
abbrev pub loaded_from : Input → List ℕ → Result LoadedValue Refusal
loaded_from (inputs.Source memory_lines) text =
    or_refused (λ fault. Asm fault.0 fault.1) (statements_of text >>= λ statements. loaded_of memory_lines statements)
loaded_from inputs.Image bytes =
    or_refused (λ fault. Image fault.0 fault.1) (image_meaning bytes >>= λ image. Ok (record { image = image; split = [] }))

-- The program that an input means, or its refusal.
unfoldable pub meaning_of : Input → List ℕ → Result LoadedValue Refusal
meaning_of input bytes = if nat_lt (limit_of input) (length bytes) then Err (TooLong (limit_of input)) else loaded_from input bytes

-- The input was read to its end, which is within the limit, or one byte more than the limit was taken.
pub record ReadsAll (limit : ℕ) (old new : Option (List ℕ)) (bytes : List ℕ) : Type 0 where
  pub taken : Took old new bytes
  pub all : (IsSpent new × (length bytes ≤ limit)) ⊎ (length bytes ≡ limit + 1)

-- An input with this meaning was read without a fault.
pub record ReadsMeaning {S : Type 0} (left : S → Option (List ℕ)) (faults : S → ℕ) (old new : S) (input : Input)
    (meaning : Result LoadedValue Refusal) : Type 0 where
  pub bytes : List ℕ
  pub reads : ReadsAll (limit_of input) (left old) (left new) bytes
  pub no_fault : faults new ≡ faults old
  pub means : meaning_of input bytes ≡ meaning

-- A function answers a meaning, unless memory ran out.
abbrev pub Gives : Result LoadedValue Refusal → Result Loaded LoadFault → Type 0
Gives meaning (Ok loaded) = meaning ≡ Ok (value_of loaded)
Gives meaning (Err (loads.Refused refusal)) = meaning ≡ Err refusal
Gives meaning (Err loads.Read) = ⊥
Gives meaning (Err loads.Memory) = Unit {0}

-- the fault of loading where what reads a program has one, whose cause and place become a refusal
abbrev pub of_reading : {C : Type 0} → (C → ℕ → Refusal) → FaultAt C → LoadFault
of_reading refusal located.Memory = loads.Memory
of_reading refusal (located.At cause place) = loads.Refused (refusal cause place)

-- What loading answers: the program or the refusal that the input means, a failed read, or want of memory.
abbrev pub Loads : {S : Type 0} → (S → Option (List ℕ)) → (S → ℕ) → S → S → Input → Result Loaded LoadFault → Type 0
Loads left faults old new input (Ok loaded) = ReadsMeaning left faults old new input (Ok (value_of loaded))
Loads left faults old new input (Err (loads.Refused refusal)) = ReadsMeaning left faults old new input (Err refusal)
Loads left faults old new input (Err loads.Read) = Rose (faults old) (faults new)
Loads left faults old new input (Err loads.Memory) = faults new ≡ faults old
