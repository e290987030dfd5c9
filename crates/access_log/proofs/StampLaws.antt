-- Stamps when one is appended, and those of one core.
use Rattle.std.proofs.Common.{◌≡◌, ℕ, Bool, true, false, List, [], ◌∷◌, ◌++◌, refl, ap}
use Rattle.std.specs.Prelude.{◌==◌, map}
use Rattle.std.specs.List.{AllByRecursion}
use Rattle.std_laws.proofs.ListLaws.{AllByRecursion-append}
use Rattle.access_log.specs.Replay.{own}
use Rattle.access_log.specs.Stamps.{Stamp, own_stamps, Precedes, IsRising}

pub IsRising-append : (stamps : List Stamp) (stamp : Stamp) → IsRising stamps → AllByRecursion (λ s. Precedes s stamp) stamps
    → IsRising (stamps ++ stamp ∷ [])
IsRising-append [] stamp rising before = (tt, tt)
IsRising-append (first ∷ stamps) stamp rising before =
    (AllByRecursion-append (Precedes first) stamps (stamp ∷ []) rising.0 (before.0, tt), IsRising-append stamps stamp rising.1 before.1)

-- the entries of a core's stamps are its own entries
pub own-stamps : (stamps : List Stamp) (core : ℕ)
    → own (map (λ (s : Stamp). s.entry) stamps) core ≡ map (λ (s : Stamp). s.entry) (own_stamps stamps core)
own-stamps [] core = refl
own-stamps (stamp ∷ stamps) core = by_core (stamp.entry.core == core) refl (own-stamps stamps core)
  where
    by_core : (is_own : Bool) → (stamp.entry.core == core) ≡ is_own
        → own (map (λ (s : Stamp). s.entry) stamps) core ≡ map (λ (s : Stamp). s.entry) (own_stamps stamps core)
        → own (map (λ (s : Stamp). s.entry) (stamp ∷ stamps)) core ≡ map (λ (s : Stamp). s.entry) (own_stamps (stamp ∷ stamps) core)
    by_core true is others = rw is (ap (λ entries. stamp.entry ∷ entries) others)
    by_core false is others = rw is others
