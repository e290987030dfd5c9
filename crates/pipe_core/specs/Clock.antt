-- What is under way after a clock, and after the end of a budget.
use Rattle.std.specs.Prelude.{ℕ, ◌*◌, Option, Some, None, length}
use Rattle.mips_isa.specs.declared.Stop.{Stop}
use Rattle.mips_isa.specs.Effects.{is_off_code}
use Rattle.pipe_regs.specs.declared.Slot.{Slot}
use Rattle.pipe_regs.specs.declared.Stages.{Stages}
use Rattle.image_file.specs.Value.{ImageValue}
use Rattle.pipe_core.specs.declared.flight.Flight.{Flight}
use Rattle.pipe_core.specs.declared.flight.Operands.{Operands}
use Rattle.pipe_core.specs.Moves.{operands_of}
use Rattle.pipe_core.specs.Steps.{commits, retires, stepped}
use Rattle.pipe_core.specs.Wants.{access_in, goes_by, place_of, word_of}

-- What the instruction in ID reads, where there is one.
abbrev pub read_by : Option Slot → Stages → Option Operands
read_by None stages = None
read_by (Some slot) stages = operands_of slot.instr stages

-- A clock in which M has no stop.
unfoldable pub clocked : ImageValue → Option ℕ → Option ℕ → ℕ → Flight → Flight
clocked image fetched reply clock flight =
    stepped (goes_by flight.stages.mem (access_in image flight.executed flight.stages.mem) reply) (read_by flight.stages.id flight.stages)
    (word_of (is_off_code (4 * length image.code) (place_of flight)) fetched) clock flight

-- The end of a budget: the access in M is executed where it was answered.
unfoldable pub drained : ImageValue → Option ℕ → Flight → Flight
drained image reply flight =
    retires (goes_by flight.stages.mem (access_in image flight.executed flight.stages.mem) reply) (commits flight)

-- At a stop nothing moves.
abbrev pub flight_after : Option Stop → ImageValue → Option ℕ → Option ℕ → ℕ → Flight → Flight
flight_after (Some why) image fetched reply clock flight = flight
flight_after None image fetched reply clock flight = clocked image fetched reply clock flight
