-- A register as the instruction in ID has to see it.
use Rattle.std.specs.Prelude.{ℕ, Option, Some, None, if◌then◌else◌, slice_index}
use Rattle.pipe_regs.specs.declared.Slot.{Slot}
use Rattle.pipe_regs.specs.declared.Stages.{Stages}
use Rattle.pipe_regs.specs.Slots.{is_load, is_written_by}
use Rattle.forwarding.specs.declared.Operand.{Operand}
use Rattle.forwarding.specs.declared.Operand.TheVariants.{Value, Wait}

-- What the instruction in EX or M gives for a register that it writes: a load is waited for.
abbrev pub in_flight : Option Slot → ℕ → Option Operand
in_flight None r = None
in_flight (Some slot) r =
    if is_written_by slot.instr r then Some (if is_load slot.instr then Wait else Value slot.result) else None

-- What the instruction in WB gives for a register that it writes: a load has its answer there.
abbrev pub in_wb : Option Slot → ℕ → Option Operand
in_wb None r = None
in_wb (Some slot) r = if is_written_by slot.instr r then Some (Value slot.result) else None

abbrev pub or_else : Option Operand → Operand → Operand
or_else None operand = operand
or_else (Some operand) other = operand

-- What the last earlier writer in a stage gives, the nearest stage first, else what the register file has.
abbrev pub selected : ℕ → Stages → Operand
selected r stages =
    or_else (in_flight stages.ex r)
    (or_else (in_flight stages.mem r)
    (or_else (in_wb stages.wb r)
    (Value (slice_index stages.regs r))))
