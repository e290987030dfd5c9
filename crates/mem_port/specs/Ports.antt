-- The ports of cores, and what may be on them.
use Rattle.std.specs.Prelude.{◌≡◌, ℕ, ◌/◌, true, List, [], ◌∷◌, ◌++◌, slice_index}
use Rattle.mips_isa.specs.declared.Kind.TheVariants as kind
use Rattle.image_file.specs.Value.{ImageValue}
use Rattle.access_log.specs.declared.request.Request.{Request}
use Rattle.access_log.specs.declared.Entry.{Entry}
use Rattle.access_log.specs.declared.Item.{Item}
use Rattle.access_log.specs.declared.Item.TheVariants.{Done}
use Rattle.access_log.specs.Requests.{entry_of}
use Rattle.mem_port.specs.declared.port.Port.{Port}
use Rattle.mem_port.specs.declared.port.Port.TheVariants.{Fetch, Access}
use Rattle.mem_port.specs.declared.port.PortState.{PortState}
use Rattle.mem_port.specs.declared.port.PortState.TheVariants.{Free, Asked, Waiting, Answered, Closed}
use Rattle.mem_port.specs.Loaded.{on_code, IsProperAccess}

abbrev pub core_of : Port → ℕ
core_of (Fetch core) = core
core_of (Access core) = core

-- What may be asked on a port: a word of code, or an access that doesn't stop.
abbrev pub MayAsk : ImageValue → Port → Request → Type 0
MayAsk image (Fetch core) r = (r.kind ≡ kind.Fetch) × (on_code image r.addr ≡ true)
MayAsk image (Access core) r = IsProperAccess image r.kind r.addr

-- It was served and has no answer.
abbrev pub IsWaiting : PortState → Type 0
IsWaiting Free = ⊥
IsWaiting (Asked r) = ⊥
IsWaiting (Waiting r) = Unit {0}
IsWaiting (Answered r word) = ⊥
IsWaiting Closed = ⊥

-- It was served.
abbrev pub IsServed : PortState → Type 0
IsServed Free = ⊥
IsServed (Asked r) = ⊥
IsServed (Waiting r) = Unit {0}
IsServed (Answered r word) = Unit {0}
IsServed Closed = ⊥

-- There is a request.
abbrev pub IsOpen : PortState → Type 0
IsOpen Free = ⊥
IsOpen (Asked r) = Unit {0}
IsOpen (Waiting r) = Unit {0}
IsOpen (Answered r word) = Unit {0}
IsOpen Closed = ⊥

-- There is a request, and it has no answer.
abbrev pub IsUnanswered : PortState → Type 0
IsUnanswered Free = ⊥
IsUnanswered (Asked r) = Unit {0}
IsUnanswered (Waiting r) = Unit {0}
IsUnanswered (Answered r word) = ⊥
IsUnanswered Closed = ⊥

-- There is no request.
abbrev pub IsAtRest : PortState → Type 0
IsAtRest Free = Unit {0}
IsAtRest (Asked r) = ⊥
IsAtRest (Waiting r) = ⊥
IsAtRest (Answered r word) = ⊥
IsAtRest Closed = Unit {0}

-- The request on a port may be asked there.
abbrev pub HoldsProper : ImageValue → Port → PortState → Type 0
HoldsProper image port Free = Unit {0}
HoldsProper image port (Asked r) = MayAsk image port r
HoldsProper image port (Waiting r) = MayAsk image port r
HoldsProper image port (Answered r word) = MayAsk image port r
HoldsProper image port Closed = Unit {0}

-- The answer to a fetch is the word of code at its address.
abbrev pub HoldsCode : ImageValue → PortState → Type 0
HoldsCode image Free = Unit {0}
HoldsCode image (Asked r) = Unit {0}
HoldsCode image (Waiting r) = Unit {0}
HoldsCode image (Answered r word) = word ≡ slice_index image.code (r.addr / 4)
HoldsCode image Closed = Unit {0}

-- The list without its last entry.
abbrev pub but_last : List Entry → List Entry
but_last [] = []
but_last (entry ∷ []) = []
but_last (entry ∷ next ∷ entries) = entry ∷ but_last (next ∷ entries)

-- The answer to an access is what its entry found, and that is the last of its core's entries.
abbrev pub HoldsEntry : ℕ → List Entry → PortState → Type 0
HoldsEntry core own Free = Unit {0}
HoldsEntry core own (Asked r) = Unit {0}
HoldsEntry core own (Waiting r) = Unit {0}
HoldsEntry core own (Answered r word) = own ≡ but_last own ++ entry_of core r word ∷ []
HoldsEntry core own Closed = Unit {0}

-- Those of a core's entries that it has taken, by its access port: all, but for one that is answered and not yet taken.
abbrev pub taken_of : PortState → List Entry → List Entry
taken_of Free own = own
taken_of (Asked r) own = own
taken_of (Waiting r) own = own
taken_of (Answered r word) own = but_last own
taken_of Closed own = own

-- What an answer on a port adds to the entries: that of an access, and none for a fetch.
abbrev pub entries_of : Port → Request → ℕ → List Entry
entries_of (Fetch core) r word = []
entries_of (Access core) r word = entry_of core r word ∷ []

-- And to the history.
abbrev pub items_of : Port → Request → ℕ → List Item
items_of (Fetch core) r word = []
items_of (Access core) r word = Done (entry_of core r word) ∷ []
