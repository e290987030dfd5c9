-- One core by itself: its own entries, and quiet instructions between them.
use Rattle.std.specs.Prelude.{◌≡◌, ℕ, List, Option, Some}
use Rattle.std.specs.Option.{option_and_then}
use Rattle.mips_isa.specs.declared.CoreState.{CoreState}
use Rattle.access_log.specs.declared.Core.{Core}
use Rattle.access_log.specs.declared.Entry.{Entry}
use Rattle.access_log.specs.Replay.{caught_up, own_steps, starting}

-- Where a core that begins in this state stands after n executed instructions, whose accesses are these entries: none where
-- they can't be.
unfoldable pub alone : List ℕ → ℕ → CoreState → List Entry → ℕ → Option Core
alone code bytes start entries n =
    option_and_then (caught_up code bytes n) (own_steps code bytes entries (starting start))

-- A core that begins in this state comes after n executed instructions to another, and its accesses on the way are these entries.
pub record ComesTo (code : List ℕ) (bytes : ℕ) (start : CoreState) (entries : List Entry) (n : ℕ) (state : CoreState) : Type 0 where
  pub is : alone code bytes start entries n ≡ Some (record { state = state; executed = n })
