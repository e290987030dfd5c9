-- What holds of a memory before and after every call has one proof, so that it may be kept in a ghost field.
use Rattle.std.specs.Prelude.{ℕ, ◌+◌, ◌*◌, Option, Some, None, List, [], ◌∷◌, length}
use Rattle.std.proofs.Props.{props}
use Rattle.mips_isa.specs.declared.Kind.{Kind}
use Rattle.mips_isa.specs.declared.Kind.TheVariants as kind
use Rattle.image_file.specs.Value.{ImageValue, SegmentValue, AreApart}
use Rattle.access_log.specs.Items.{IsLegal}
use Rattle.access_log.specs.Memory.{after}
use Rattle.access_log.specs.declared.Entry.{Entry}
use Rattle.access_log.specs.declared.Transaction.{Transaction}
use Rattle.access_log.specs.declared.Item.{Item}
use Rattle.access_log.specs.declared.Item.TheVariants.{Done, Bus}
use Rattle.letters.specs.Caches.{Caches}
use Rattle.letters.specs.Fold.{LettersValue, IsAllowed, FollowsFrom, Follows, after_entry, after_transaction, no_letters}
use Rattle.mem_port.specs.declared.port.Port.{Port}
use Rattle.mem_port.specs.declared.port.Port.TheVariants.{Fetch, Access}
use Rattle.mem_port.specs.declared.port.PortState.{PortState}
use Rattle.mem_port.specs.declared.port.PortState.TheVariants.{Free, Asked, Waiting, Answered, Closed}
use Rattle.mem_port.specs.Ports.{HoldsCode, HoldsEntry, HoldsProper}
use Rattle.mem_port.specs.Loaded.{IsProperAccess}
use Rattle.mem_port.specs.Memory.{MemoryView, IsLawful}

AreApart-prop : (from bytes : ℕ) (segments : List SegmentValue) → IsProp (AreApart from bytes segments)
AreApart-prop from bytes [] = hlevel props
AreApart-prop from bytes (segment ∷ segments) = hlevel (props, AreApart-prop (segment.start + 4 * length segment.words) bytes segments)

IsLegal-prop : (memory : List ℕ) (items : List Item) → IsProp (IsLegal memory items)
IsLegal-prop memory [] = hlevel props
IsLegal-prop memory (Done entry ∷ items) = hlevel (props, IsLegal-prop (after memory entry) items)
IsLegal-prop memory (Bus bus ∷ items) = IsLegal-prop memory items

IsAllowed-prop : (caches : Caches) (cores code_lines : ℕ) (letters : LettersValue) (bus : Transaction)
    → IsProp (IsAllowed caches cores code_lines letters bus)
IsAllowed-prop caches cores code_lines letters bus = hlevel props

FollowsFrom-prop : (caches : Caches) (cores code_lines : ℕ) (letters : LettersValue) (items : List Item)
    → IsProp (FollowsFrom caches cores code_lines letters items)
FollowsFrom-prop caches cores code_lines letters [] = hlevel props
FollowsFrom-prop caches cores code_lines letters (Done entry ∷ items) =
    hlevel (props, FollowsFrom-prop caches cores code_lines (after_entry letters entry) items)
FollowsFrom-prop caches cores code_lines letters (Bus bus ∷ items) =
    hlevel (props, IsAllowed-prop, FollowsFrom-prop caches cores code_lines (after_transaction caches letters bus) items)

Follows-prop : (caches : Option Caches) (cores code_lines : ℕ) (items : List Item) → IsProp (Follows caches cores code_lines items)
Follows-prop None cores code_lines items = hlevel props
Follows-prop (Some caches) cores code_lines items = FollowsFrom-prop caches cores code_lines no_letters items

IsProperAccess-prop : (image : ImageValue) (k : Kind) (addr : ℕ) → IsProp (IsProperAccess image k addr)
IsProperAccess-prop image kind.Fetch addr = hlevel props
IsProperAccess-prop image kind.Lw addr = hlevel props
IsProperAccess-prop image kind.Sw addr = hlevel props
IsProperAccess-prop image kind.Cas addr = hlevel props

HoldsProper-prop : (image : ImageValue) (port : Port) (state : PortState) → IsProp (HoldsProper image port state)
HoldsProper-prop image (Fetch core) Free = hlevel props
HoldsProper-prop image (Fetch core) (Asked r) = hlevel props
HoldsProper-prop image (Fetch core) (Waiting r) = hlevel props
HoldsProper-prop image (Fetch core) (Answered r word) = hlevel props
HoldsProper-prop image (Fetch core) Closed = hlevel props
HoldsProper-prop image (Access core) Free = hlevel props
HoldsProper-prop image (Access core) (Asked r) = IsProperAccess-prop image r.kind r.addr
HoldsProper-prop image (Access core) (Waiting r) = IsProperAccess-prop image r.kind r.addr
HoldsProper-prop image (Access core) (Answered r word) = IsProperAccess-prop image r.kind r.addr
HoldsProper-prop image (Access core) Closed = hlevel props

HoldsCode-prop : (image : ImageValue) (state : PortState) → IsProp (HoldsCode image state)
HoldsCode-prop image Free = hlevel props
HoldsCode-prop image (Asked r) = hlevel props
HoldsCode-prop image (Waiting r) = hlevel props
HoldsCode-prop image (Answered r word) = hlevel props
HoldsCode-prop image Closed = hlevel props

HoldsEntry-prop : (core : ℕ) (own : List Entry) (state : PortState) → IsProp (HoldsEntry core own state)
HoldsEntry-prop core own Free = hlevel props
HoldsEntry-prop core own (Asked r) = hlevel props
HoldsEntry-prop core own (Waiting r) = hlevel props
HoldsEntry-prop core own (Answered r word) = hlevel props
HoldsEntry-prop core own Closed = hlevel props

pub IsLawful-prop : (m : MemoryView) → IsProp (IsLawful m)
IsLawful-prop m = hlevel (props, AreApart-prop, IsLegal-prop, Follows-prop, HoldsProper-prop, HoldsCode-prop, HoldsEntry-prop)
