-- The end of a core with five stages.
use Rattle.std.specs.Prelude.{◌≡◌, ℕ, ◌≤◌, Option, List, map}
use Rattle.mips_isa.specs.declared.Instr.{Instr}
use Rattle.mips_isa.specs.declared.Next.{Next}
use Rattle.mips_isa.specs.declared.Next.TheVariants.{Stops}
use Rattle.mips_isa.specs.Steps.{next_of}
use Rattle.image_file.specs.Value.{ImageValue, memory_bytes, start_state}
use Rattle.access_log.specs.declared.Entry.{Entry}
use Rattle.timetable.specs.declared.rows.TimeRow.{TimeRow}
use Rattle.timetable.specs.declared.End.{End}
use Rattle.timetable.specs.declared.End.TheVariants.{Stopped, Spent}
use Rattle.timetable.specs.declared.CoreEnd.{CoreEnd}
use Rattle.timetable.specs.Trace.{trace, instr_on}
use Rattle.timetable.specs.Ends.{EndsInStop, EndsSpent}

-- What accesses found.
abbrev pub found_by : List Entry → List ℕ
found_by accesses = map (λ (entry : Entry). entry.old) accesses

-- The instructions that a core of so many executed, where it made these accesses.
abbrev pub executed_by : ImageValue → ℕ → ℕ → List Entry → ℕ → List (Option Instr)
executed_by image core cores accesses retired =
    trace image.code (memory_bytes image) retired (start_state image core cores) (found_by accesses)

-- When an end is right, by the instructions that were executed, by the one that comes next, and by what that does; on a memory on
-- which nothing waits longer than a bound.
-- Stopped: this stop comes next, in the last cycle, and that is within the budget.
-- Spent: all cycles of the budget are gone. Where there is a bound, what comes next would not be done within them; where answers may
-- come late, the last access may have been found answered only as it was withdrawn.
abbrev pub EndsInStages : End → Option ℕ → ℕ → List (Option Instr) → Option Instr → Next → ℕ → List TimeRow → Type 0
EndsInStages (Stopped stop) bound budget instrs instr next cycles rows =
    (next ≡ Stops stop) × (cycles ≤ budget) × EndsInStop bound instrs instr cycles rows
EndsInStages Spent bound budget instrs instr next cycles rows = (cycles ≡ budget) × EndsSpent bound instrs instr budget rows

-- The end of a core with five stages, of so many, that made these accesses.
abbrev pub IsStagedEnd : Option ℕ → ℕ → ImageValue → ℕ → ℕ → List Entry → CoreEnd → Type 0
IsStagedEnd bound budget image core cores accesses ended =
    EndsInStages ended.end bound budget (executed_by image core cores accesses ended.retired) (instr_on image.code ended.state.dpc)
    (next_of image.code (memory_bytes image) ended.state) ended.cycles ended.rows.rows
