-- What the check of one item leaves.
use Rattle.std.specs.Prelude.{◌≡◌, ℕ, ◌-◌, ◌*◌, ◌^◌, ◌<◌, List, [], ◌∷◌, Option, Some, None}
use Rattle.access_log.specs.declared.Item.{Item}
use Rattle.access_log.specs.declared.Item.TheVariants.{Done, Bus}
use Rattle.access_log.specs.Replay.{FlatMachine}
use Rattle.seq_machine.specs.declared.Differs.{Differs}
use Rattle.seq_machine.specs.Differences.{DiffersFirst}
use Rattle.letters.specs.Caches.{Caches}
use Rattle.letters.specs.Fold.{no_letters, letters_after}
use Rattle.item_check.specs.declared.Illegal.{Illegal}
use Rattle.item_check.specs.Illegal.{illegal_in}
use Rattle.item_check.specs.Held.{HeldLetters, caches_of, letters_of, IsKept}

-- An item of so many cores, and an access that may be counted.
abbrev pub IsCheckable : ℕ → Item → Type 0
IsCheckable cores (Done entry) = (entry.core < cores) × (entry.nth < 2 ^ 32 - 1)
IsCheckable cores (Bus bus) = bus.master < 2 * cores

-- An item is an access, and differs so from the one that the machine makes next.
abbrev pub IsNotMade : FlatMachine → Item → Differs → FlatMachine → Type 0
IsNotMade old (Done entry) differs new = DiffersFirst old entry differs new
IsNotMade old (Bus bus) differs new = ⊥

-- What is illegal in an item by the letters, where there are any.
abbrev pub illegal_by : Option HeldLetters → Item → Option Illegal
illegal_by None item = None
illegal_by (Some letters) item = illegal_in (caches_of letters) letters.cores letters.code_lines (letters_of letters) item

-- The letters of so many cores, where there are any.
abbrev pub AreOfCores : ℕ → Option HeldLetters → Type 0
AreOfCores cores None = Unit {0}
AreOfCores cores (Some letters) = letters.cores ≡ cores

-- The letters, where there are any, after an item.
abbrev pub AreNext : Item → Option HeldLetters → Option HeldLetters → Type 0
AreNext item None None = Unit {0}
AreNext item (Some old) (Some new) = IsKept old new × (letters_of new ≡ letters_after (caches_of old) (letters_of old) (item ∷ []))
AreNext item old new = ⊥

-- The letters of the caches, where there are any, after a history.
abbrev pub AreAfter : Option Caches → ℕ → ℕ → List Item → Option HeldLetters → Type 0
AreAfter None cores code_lines items None = Unit {0}
AreAfter (Some caches) cores code_lines items (Some letters) =
    (caches_of letters ≡ caches) × (letters.cores ≡ cores) × (letters.code_lines ≡ code_lines)
    × (letters_of letters ≡ letters_after caches no_letters items)
AreAfter caches cores code_lines items letters = ⊥
