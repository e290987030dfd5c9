-- The cycles of an unpipelined core on memory that answers at once.
use Rattle.std.specs.Prelude.{◌≡◌, ℕ, ◌+◌, ◌<◌, ◌≤◌}
use Rattle.mips_isa.specs.declared.Next.{Next}
use Rattle.mips_isa.specs.declared.Next.TheVariants.{Stops, Asks, Goes}
use Rattle.timetable.specs.declared.End.{End}
use Rattle.timetable.specs.declared.End.TheVariants.{Stopped, Spent}
use Rattle.timetable.specs.declared.CoreEnd.{CoreEnd}

-- An instruction takes one cycle, and an access a second one. A stop takes one.
abbrev pub plain_cycles : Next → ℕ
plain_cycles (Asks access) = 2
plain_cycles (Goes state) = 1
plain_cycles (Stops stop) = 1

-- When an end is right, by the cycles that the executed instructions used, and by what comes next.
-- Stopped: this stop comes next, it took one cycle more, and that is within the budget.
-- Spent: all cycles of the budget are gone, and what comes next would not be done within them.
abbrev pub EndsRightly : End → ℕ → ℕ → ℕ → Next → Type 0
EndsRightly (Stopped stop) budget cycles used next = (next ≡ Stops stop) × (cycles ≡ used + 1) × (cycles ≤ budget)
EndsRightly Spent budget cycles used next = (cycles ≡ budget) × (used ≤ budget) × (budget < used + plain_cycles next)

-- The end of an unpipelined core that made so many accesses: it used a cycle for each executed instruction, and a second one for each
-- access.
abbrev pub IsPlainEnd : ℕ → ℕ → Next → CoreEnd → Type 0
IsPlainEnd budget accesses next ended = EndsRightly ended.end budget ended.cycles (ended.retired + accesses) next
