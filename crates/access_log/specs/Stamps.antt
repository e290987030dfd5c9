-- Entries with the cycles in which their cores received them.
use Rattle.std.specs.Prelude.{◌≡◌, ℕ, ◌<◌, ◌⊎◌, ◌==◌, List, [], ◌∷◌, filter, map}
use Rattle.std.specs.List.{AllByRecursion}
use Rattle.access_log.specs.declared.Entry.{Entry}

pub record Stamp : Type 0 where
  pub entry : Entry
  pub cycle : ℕ

-- Entries that were received in one cycle.
abbrev pub stamped : ℕ → List Entry → List Stamp
stamped cycle entries = map (λ entry. record { entry = entry; cycle = cycle }) entries

-- Those of one core, in order.
abbrev pub own_stamps : List Stamp → ℕ → List Stamp
own_stamps stamps core = filter (λ stamp. stamp.entry.core == core) stamps

-- It is in an earlier cycle, or in the same one and of a core with a lower number.
abbrev pub Precedes : Stamp → Stamp → Type 0
Precedes a b = (a.cycle < b.cycle) ⊎ ((a.cycle ≡ b.cycle) × (a.entry.core < b.entry.core))

-- Each precedes all behind it.
abbrev pub IsRising : List Stamp → Type 0
IsRising [] = Unit {0}
IsRising (stamp ∷ stamps) = AllByRecursion (Precedes stamp) stamps × IsRising stamps
