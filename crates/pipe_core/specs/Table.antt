-- The rows that an engine keeps, and which row a clock adds.
use Rattle.std.specs.Prelude.{ℕ, ◌+◌, ◌-◌, Option, Some, None, List, [], ◌∷◌, ◌++◌}
use Rattle.mips_isa.specs.declared.Instr.{Instr}
use Rattle.mips_isa.specs.declared.Stop.{Stop}
use Rattle.pipe_regs.specs.declared.Slot.{Slot}
use Rattle.image_file.specs.Value.{ImageValue}
use Rattle.access_log.specs.declared.request.Request.{Request}
use Rattle.timetable.specs.declared.rows.TimeRow.{TimeRow}
use Rattle.pipe_core.specs.declared.flight.Times.{Times}
use Rattle.pipe_core.specs.declared.flight.Flight.{Flight}
use Rattle.pipe_core.specs.Wants.{access_in, goes_by}

-- Rows with their instructions, and room for more.
pub record TableValue : Type 0 where
  pub rows : List TimeRow
  pub instrs : List (Option Instr)
  pub spare : ℕ

abbrev pub with_row : TableValue → Option Instr → TimeRow → TableValue
with_row table instr row = record { rows = table.rows ++ row ∷ []; instrs = table.instrs ++ instr ∷ []; spare = table.spare - 1 }

-- The clock of an answer, where an access is made.
abbrev pub clock_where : Option Request → ℕ → Option ℕ
clock_where None clock = None
clock_where (Some request) clock = Some clock

abbrev pub row_of : Times → Option ℕ → ℕ → Option ℕ → TimeRow
row_of times a m w = record { i = times.i; f = times.f; d = times.d; e = times.e; a = a; m = m; w = w }

-- The instruction in M adds its row where it is executed.
abbrev pub kept : Option ℕ → Option Slot → Times → Option Request → ℕ → TableValue → TableValue
kept None mem times access clock table = table
kept (Some word) None times access clock table = table
kept (Some word) (Some slot) times access clock table =
    with_row table slot.instr (row_of times (clock_where access clock) clock (Some (clock + 1)))

abbrev pub instr_where : Option Slot → Option Instr
instr_where None = None
instr_where (Some slot) = slot.instr

-- A stop adds its row, without A and W.
abbrev pub table_after : Option Stop → ImageValue → Option ℕ → ℕ → Flight → TableValue → TableValue
table_after (Some why) image reply clock flight table =
    with_row table (instr_where flight.stages.mem) (row_of flight.mem_times None clock None)
table_after None image reply clock flight table =
    kept (goes_by flight.stages.mem (access_in image flight.executed flight.stages.mem) reply) flight.stages.mem flight.mem_times
    (access_in image flight.executed flight.stages.mem) clock table
