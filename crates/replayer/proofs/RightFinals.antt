-- The cores of a machine catch up to their counts one by one, each by itself.
use Rattle.std.proofs.Common.{◌≡◌, ℕ, ◌*◌, ◌+◌, List, [], ◌∷◌, ◌++◌, length, refl, sym, ap, ◌∙◌, arith, append_assoc}
use Rattle.std.specs.Prelude.{Option, Some, None}
use Rattle.std.specs.Option.{option_map}
use Rattle.std.proofs.lemmas.List.{set_at, length_push}
use Rattle.std.proofs.lemmas.Option.{same_Some}
use Rattle.std_laws.proofs.ListLaws.{slice_get_at}
use Rattle.std_laws.proofs.OptionLaws.{option_and_then_parts, option_map_parts}
use Rattle.access_log.specs.declared.Core.{Core}
use Rattle.access_log.specs.Replay.{FlatMachine, caught_up, with_core, moved, ended}

-- each core catches up to its count, and these are the cores then
abbrev pub AreCaughtUp : List ℕ → ℕ → List ℕ → List Core → List Core → Type 0
AreCaughtUp code bytes [] [] [] = Unit {0}
AreCaughtUp code bytes (n ∷ counts) (core ∷ cores) (final ∷ finals) = (caught_up code bytes n core ≡ Some final)
    × AreCaughtUp code bytes counts cores finals
AreCaughtUp code bytes counts cores finals = ⊥

-- a machine by its parts
abbrev pub machine_with : List ℕ → List Core → List ℕ → FlatMachine
machine_with code cores memory = record { code = code; cores = cores; memory = memory }

-- one core of them
moved_at : (code : List ℕ) (index n : ℕ) (done cores : List Core) (core : Core) (memory : List ℕ) → length done ≡ index
    → moved index n (machine_with code (done ++ core ∷ cores) memory)
    ≡ option_map (λ (final : Core). machine_with code ((done ++ final ∷ []) ++ cores) memory)
    (caught_up code (4 * length memory) n core)
moved_at code index n done cores core memory is =
    rw (slice_get_at done core cores index is) (by_core (caught_up code (4 * length memory) n core))
  where
    by_core : (final : Option Core)
        → option_map (with_core (machine_with code (done ++ core ∷ cores) memory) index) final
        ≡ option_map (λ (c : Core). machine_with code ((done ++ c ∷ []) ++ cores) memory) final
    by_core None = refl
    by_core (Some final) = ap (λ (cs : List Core). Some (machine_with code cs memory))
        (set_at done core cores final index is ∙ sym (append_assoc done (final ∷ []) cores))

pub ended-caught_up : (code : List ℕ) (index : ℕ) (counts : List ℕ) (done cores finals : List Core) (memory : List ℕ) → length done ≡ index
    → AreCaughtUp code (4 * length memory) counts cores finals
    → ended index counts (machine_with code (done ++ cores) memory) ≡ Some (machine_with code (done ++ finals) memory)
unfolding ended
ended-caught_up code index [] done [] [] memory is all = refl
ended-caught_up code index (n ∷ counts) done (core ∷ cores) (final ∷ finals) memory is all =
    let count_is : length (done ++ final ∷ []) ≡ index + 1 = length_push done final ∙ ap (λ n. n + 1) is in
    rw (moved_at code index n done cores core memory is, all.0)
    (ended-caught_up code (index + 1) counts (done ++ final ∷ []) cores finals memory count_is all.1
    ∙ ap (λ (cs : List Core). Some (machine_with code cs memory)) (append_assoc done (final ∷ []) finals))
ended-caught_up code index counts done cores finals memory is all = absurd all

-- the machine when they have
pub record AreFinal (code : List ℕ) (counts : List ℕ) (done cores : List Core) (memory : List ℕ) (last : FlatMachine) : Type 0 where
  pub finals : List Core
  pub all : AreCaughtUp code (4 * length memory) counts cores finals
  pub last_is : last ≡ machine_with code (done ++ finals) memory

record IsMoved (code : List ℕ) (n : ℕ) (done cores : List Core) (core : Core) (memory : List ℕ) (new : FlatMachine) : Type 0 where
  pub final : Core
  pub caught : caught_up code (4 * length memory) n core ≡ Some final
  pub new_is : machine_with code ((done ++ final ∷ []) ++ cores) memory ≡ new

is_moved : (code : List ℕ) (index n : ℕ) (done cores : List Core) (core : Core) (memory : List ℕ) (new : FlatMachine) → length done ≡ index
    → moved index n (machine_with code (done ++ core ∷ cores) memory) ≡ Some new → IsMoved code n done cores core memory new
is_moved code index n done cores core memory new is run =
    let final = option_map_parts (λ (c : Core). machine_with code ((done ++ c ∷ []) ++ cores) memory)
    (caught_up code (4 * length memory) n core)
    new (sym (moved_at code index n done cores core memory is) ∙ run) in
    record { final = final.0; caught = final.1; new_is = final.2 }

then_others : (code : List ℕ) (n : ℕ) (counts : List ℕ) (done cores : List Core) (core final : Core) (memory : List ℕ) (last : FlatMachine)
    → caught_up code (4 * length memory) n core ≡ Some final
    → AreFinal code counts (done ++ final ∷ []) cores memory last → AreFinal code (n ∷ counts) done (core ∷ cores) memory last
then_others code n counts done cores core final memory last caught others = record {
  finals = final ∷ others.finals;
  all = (caught, others.all);
  last_is = others.last_is ∙ ap (λ (cs : List Core). machine_with code cs memory) (append_assoc done (final ∷ []) others.finals);
}

pub caught_up-ended : (code : List ℕ) (index : ℕ) (counts : List ℕ) (done cores : List Core) (memory : List ℕ) (last : FlatMachine)
    → length done ≡ index → length counts ≡ length cores
    → ended index counts (machine_with code (done ++ cores) memory) ≡ Some last → AreFinal code counts done cores memory last
unfolding ended
caught_up-ended code index [] done [] memory last is same run = record { finals = []; all = tt; last_is = sym (same_Some _ last run) }
caught_up-ended code index [] done (core ∷ cores) memory last is same run = absurd (omega (arith, same))
caught_up-ended code index (n ∷ counts) done [] memory last is same run = absurd (omega (arith, same))
caught_up-ended code index (n ∷ counts) done (core ∷ cores) memory last is same run =
    let first = option_and_then_parts (ended (index + 1) counts) (moved index n (machine_with code (done ++ core ∷ cores) memory)) last run
    in
    let by = is_moved code index n done cores core memory first.0 is first.1 in
    let count_is : length (done ++ by.final ∷ []) ≡ index + 1 = length_push done by.final ∙ ap (λ n. n + 1) is in
    then_others code n counts done cores core by.final memory last by.caught
    (caught_up-ended code (index + 1) counts (done ++ by.final ∷ []) cores memory last count_is (omega (arith, same))
    (rw (← by.new_is) at first.2))
