-- Where in a history the entries of a core stand.
use Rattle.std.specs.Prelude.{ℕ, zero, suc, ◌==◌, ◌<◌, Bool, false, if◌then◌else◌, Option, Some, None, List, slice_get}
use Rattle.std.specs.Option.{option_and_then}
use Rattle.access_log.specs.declared.Item.{Item}
use Rattle.access_log.specs.declared.Item.TheVariants.{Done, Bus}

-- The core whose entry an item is, where it is an entry.
abbrev pub core_in : Item → Option ℕ
core_in (Done entry) = Some entry.core
core_in (Bus transaction) = None

-- The core whose entry stands at an index, where one stands there.
abbrev pub core_at : List Item → ℕ → Option ℕ
core_at items index = option_and_then core_in (slice_get items index)

-- Whether it is this core.
abbrev pub is_core : ℕ → Option ℕ → Bool
is_core core None = false
is_core core (Some other) = other == core

-- The greatest index below n at which an entry of a core stands, where there is one.
abbrev pub last_below : List Item → ℕ → ℕ → Option ℕ
last_below items zero core = None
last_below items (suc n) core = if is_core core (core_at items n) then Some n else last_below items n core

-- Where an entry stands at an index, the index of its core's entry before it, where there is one.
abbrev pub before : List Item → ℕ → Option ℕ
before items index = option_and_then (last_below items index) (core_at items index)

-- It is a transaction, or the entry of a core whose number is below 8.
abbrev pub IsOfCore : Item → Type 0
IsOfCore (Done entry) = entry.core < 8
IsOfCore (Bus transaction) = Unit {0}
