-- Where each core can catch up to its count, the machine ends with these cores.
use Rattle.std.proofs.Common.{◌≡◌, ℕ, zero, suc, ◌+◌, ◌*◌, ◌<◌, List, [], ◌∷◌, length, arith, refl, sym, ◌∙◌}
use Rattle.std.specs.Prelude.{Some, slice_get, slice_set}
use Rattle.std.proofs.lemmas.Option.{none-some, same_Some, slice_get_within}
use Rattle.std.proofs.lemmas.List.{length-set}
use Rattle.std_laws.proofs.ListLaws.{slice_get-set_same, slice_get-set_other}
use Rattle.access_log.specs.declared.Core.{Core}
use Rattle.access_log.specs.Replay.{FlatMachine, caught_up, moved, ended}

abbrev at : List ℕ → List Core → List ℕ → FlatMachine
at code cores memory = record { code = code; cores = cores; memory = memory }

-- the cores from an index on can catch up to these counts
abbrev pub EachEnds : List ℕ → ℕ → ℕ → List ℕ → List Core → Type 0
EachEnds code bytes index counts cores = (c n : ℕ) → slice_get counts c ≡ Some n → (core final : Core)
    × (slice_get cores (index + c) ≡ Some core) × (caught_up code bytes n core ≡ Some final)

-- what the machine ends with
pub record Ended (code : List ℕ) (bytes index : ℕ) (counts : List ℕ) (cores : List Core) (memory : List ℕ) (new_cores : List Core) : Type 0
  where
    pub run : ended index counts (at code cores memory) ≡ Some (at code new_cores memory)
    pub before : (c : ℕ) → c < index → slice_get new_cores c ≡ slice_get cores c
    pub each : (c n : ℕ) (core : Core) → slice_get counts c ≡ Some n → slice_get cores (index + c) ≡ Some core
        → caught_up code bytes n core ≡ slice_get new_cores (index + c)
    pub length_is : length new_cores ≡ length cores

ends_next : (code : List ℕ) (bytes index n : ℕ) (counts : List ℕ) (cores : List Core) (new : Core)
    → EachEnds code bytes index (n ∷ counts) cores → EachEnds code bytes (index + 1) counts (slice_set cores index new)
ends_next code bytes index n counts cores new ends c m counted =
    let found = ends (suc c) m counted in
    let e : index + suc c ≡ index + 1 + c = omega arith in
    let here : slice_get (slice_set cores index new) (index + 1 + c) ≡ Some found.0 =
    slice_get-set_other cores index (index + 1 + c) new (λ h. omega arith) ∙ (rw e at found.2) in
    (found.0, found.1, here, found.3)

each_of : (code : List ℕ) (bytes index n : ℕ) (counts : List ℕ) (cores new_cores : List Core) (core final : Core)
    → slice_get cores index ≡ Some core → caught_up code bytes n core ≡ Some final → slice_get new_cores index ≡ Some final
    → ((c m : ℕ) (other : Core) → slice_get counts c ≡ Some m → slice_get (slice_set cores index final) (index + 1 + c) ≡ Some other
    → caught_up code bytes m other ≡ slice_get new_cores (index + 1 + c))
    → (c m : ℕ) (other : Core) → slice_get (n ∷ counts) c ≡ Some m → slice_get cores (index + c) ≡ Some other
    → caught_up code bytes m other ≡ slice_get new_cores (index + c)
each_of code bytes index n counts cores new_cores core final here caught new others zero m other counted there =
    let e : index + 0 ≡ index = omega arith in
    let same_count : n ≡ m = same_Some n m counted in
    let same_core : other ≡ core = same_Some other core (sym (rw e at there) ∙ here) in
    rw (e, ← same_count, same_core, caught, new) refl
each_of code bytes index n counts cores new_cores core final here caught new others (suc c) m other counted there =
    let e : index + suc c ≡ index + 1 + c = omega arith in
    let stands : slice_get (slice_set cores index final) (index + 1 + c) ≡ Some other =
    slice_get-set_other cores index (index + 1 + c) final (λ h. omega arith) ∙ (rw e at there) in
    rw e (others c m other counted stands)

pub ended-each : (code : List ℕ) (bytes index : ℕ) (counts : List ℕ) (cores : List Core) (memory : List ℕ) → 4 * length memory ≡ bytes
    → EachEnds code bytes index counts cores → (new_cores : List Core) × Ended code bytes index counts cores memory new_cores
unfolding ended
ended-each code bytes index [] cores memory size ends = (
  cores,
  record {
    run = refl;
    before = λ c h. refl;
    each = λ c n core counted here. absurd (none-some n counted);
    length_is = refl;
  },
)
ended-each code bytes index (n ∷ counts) cores memory size ends =
    let first = ends zero n refl in
    let core : Core = first.0 in
    let final : Core = first.1 in
    let here : slice_get cores index ≡ Some core = (let e : index + 0 ≡ index = omega arith in rw e at first.2) in
    let within : index < length cores = slice_get_within cores index core here in
    let next : List Core = slice_set cores index final in
    let step : moved index n (at code cores memory) ≡ Some (at code next memory) = rw (here, size, first.3) refl in
    let others = ended-each code bytes (index + 1) counts next memory size (ends_next code bytes index n counts cores final ends) in (
      others.0,
      record {
        run = rw step others.1.run;
        before = λ c h. others.1.before c (omega arith) ∙ slice_get-set_other cores index c final (λ e. omega arith);
        each = each_of code bytes index n counts cores others.0 core final here first.3
            (others.1.before index (omega arith) ∙ slice_get-set_same cores index final within) others.1.each;
        length_is = rw (length-set cores index final) at others.1.length_is;
      },
    )
