-- The order of accesses, by whose cycle comes next.
use Rattle.std.specs.Prelude.{ℕ, ◌+◌, List, [], ◌∷◌, ◌++◌, length, map, slice_get}
use Rattle.std.specs.Option.{option_and_then}
use Rattle.kmp_base.specs.declared.setup.Setup.{Setup}
use Rattle.kmp_base.specs.declared.setup.MachineKind.{MachineKind}
use Rattle.kmp_base.specs.declared.setup.MachineKind.TheVariants.{Plain, Pipe, Full}
use Rattle.kmp_base.specs.declared.setup.Turns.{Turns}
use Rattle.kmp_base.specs.declared.setup.Turns.TheVariants.{Round, Seeded, Threads}
use Rattle.access_log.specs.declared.Entry.{Entry}
use Rattle.access_log.specs.Replay.{own}
use Rattle.access_log.specs.Stamps.{Stamp, IsRising}
use Rattle.timetable.specs.declared.rows.TimeRow.{TimeRow}
use Rattle.timetable.specs.declared.CoreEnd.{CoreEnd}
use Rattle.timetable.specs.Recurrence.{answered_in}
use Rattle.right_run.specs.Seeded.{AreSeeded}

-- The cycle in which an unpipelined core makes an access, by its earlier accesses, on memory that answers at once: it has
-- used a cycle for each instruction before and a second one for each access before; it is fetched, and then it is made.
abbrev pub access_cycle : List Entry → Entry → ℕ
access_cycle earlier entry = entry.nth + length earlier + 2

-- Accesses behind others, each with its cycle.
abbrev pub in_cycles : List Entry → List Entry → List Stamp
in_cycles before [] = []
in_cycles before (entry ∷ order) =
    record { entry = entry; cycle = access_cycle (own before entry.core) entry } ∷ in_cycles (before ++ entry ∷ []) order

-- The cycle of an access that the timetables of the cores tell: A of its instruction's row.
abbrev pub told_cycle : List (List TimeRow) → Entry → ℕ
told_cycle tables entry = answered_in (option_and_then (λ (row : TimeRow). row.a)
    (option_and_then (λ (rows : List TimeRow). slice_get rows entry.nth) (slice_get tables entry.core)))

-- Accesses, each with the cycle that is told.
abbrev pub in_told_cycles : List (List TimeRow) → List Entry → List Stamp
in_told_cycles tables order = map (λ (entry : Entry). record { entry = entry; cycle = told_cycle tables entry }) order

-- Accesses, each with its cycle, by the turns, where the cores had so many cycles. In rounds every core has a cycle, by rising
-- number: by cycle, and in a cycle by core, each access is behind those before it. Cores on threads have their cycles in any order.
abbrev pub AreInTurns : Turns → ℕ → List ℕ → List Stamp → Type 0
AreInTurns Round seed cycles stamps = IsRising stamps
AreInTurns Seeded seed cycles stamps = AreSeeded seed cycles stamps
AreInTurns Threads seed cycles stamps = Unit {0}

-- The order of accesses, by the machine, with the cycles and the timetables of the cores. Over caches nothing is told of it: an access
-- that waits is done by a step in the cycle of some core, perhaps another one's, and the report has the cycle in which its own
-- core took the answer, and not whose cycle that step was in.
abbrev pub IsInTurnsOn : MachineKind → Turns → ℕ → List ℕ → List (List TimeRow) → List Entry → Type 0
IsInTurnsOn Plain turns seed cycles tables order = AreInTurns turns seed cycles (in_cycles [] order)
IsInTurnsOn Pipe turns seed cycles tables order = AreInTurns turns seed cycles (in_told_cycles tables order)
IsInTurnsOn Full turns seed cycles tables order = Unit {0}

abbrev pub IsInTurns : Setup → List ℕ → List (List TimeRow) → List Entry → Type 0
IsInTurns setup cycles tables order = IsInTurnsOn setup.machine setup.turns setup.seed cycles tables order

-- The cycles and the timetable of each core.
abbrev pub cycles_of : List CoreEnd → List ℕ
cycles_of ends = map (λ (ended : CoreEnd). ended.cycles) ends

abbrev pub tables_of : List CoreEnd → List (List TimeRow)
tables_of ends = map (λ (ended : CoreEnd). ended.rows.rows) ends
