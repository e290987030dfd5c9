-- How each stage moves, where it moves: what it holds goes on to the stage before it, with the clock in which it left.
use Rattle.std.specs.Prelude.{ℕ, ◌+◌, Option, Some, None, if◌then◌else◌, List}
use Rattle.mips_isa.specs.declared.Instr.{Instr}
use Rattle.mips_isa.specs.Effects.{sum_of, rs_of, rt_of, expected_by, written_by, result_of, next_pc_of}
use Rattle.mips_isa.specs.Steps.{written_to}
use Rattle.pipe_regs.specs.declared.Slot.{Slot}
use Rattle.pipe_regs.specs.declared.Stages.{Stages}
use Rattle.pipe_regs.specs.Slots.{is_load}
use Rattle.forwarding.specs.declared.Operand.{Operand}
use Rattle.forwarding.specs.declared.Operand.TheVariants.{Value, Wait}
use Rattle.forwarding.specs.Select.{selected}
use Rattle.pipe_core.specs.declared.flight.Flight.{Flight}
use Rattle.pipe_core.specs.declared.flight.Operands.{Operands}

-- The pc after an instruction; off the code it is the next address.
abbrev pub next_pc_where : Option Instr → ℕ → ℕ → ℕ → ℕ
next_pc_where None a b pc = sum_of pc 4
next_pc_where (Some instr) a b pc = next_pc_of instr a b pc

-- What an instruction computes without memory.
abbrev pub result_where : Option Instr → ℕ → ℕ → ℕ → ℕ
result_where None a b pc = 0
result_where (Some instr) a b pc = result_of instr a b pc

-- The registers after an instruction that writes this value.
abbrev pub regs_after : List ℕ → Option Instr → ℕ → List ℕ
regs_after regs None value = regs
regs_after regs (Some instr) value = written_to regs (written_by instr) value

-- Three operands, where none is to be waited for.
abbrev pub all_three : Operand → Operand → Operand → Option Operands
all_three (Value a) (Value b) (Value c) = Some (record { a = a; b = b; c = c })
all_three (Value a) (Value b) Wait = None
all_three (Value a) Wait c = None
all_three Wait b c = None

-- What the instruction in ID reads: the registers rs and rt, and the one whose value a compare and swap expects.
abbrev pub operands_of : Option Instr → Stages → Option Operands
operands_of None stages = Some (record { a = 0; b = 0; c = 0 })
operands_of (Some instr) stages =
    all_three (selected (rs_of instr) stages) (selected (rt_of instr) stages) (selected (expected_by instr) stages)

-- WB writes the register file, and is empty.
abbrev pub committed_in : Flight → Option Slot → Flight
committed_in flight None = flight
committed_in flight (Some slot) =
    record flight { stages = record flight.stages { wb = None; regs = regs_after flight.stages.regs slot.instr slot.result } }

-- The instruction in M is executed and goes on to WB; a load receives the word that was found.
abbrev pub retired : ℕ → Flight → Option Slot → Flight
retired word flight None = flight
retired word flight (Some slot) = record flight {
  executed = flight.executed + 1;
  dpc = slot.pc;
  pc = next_pc_where slot.instr slot.a slot.b slot.pc;
  stages = record flight.stages { mem = None; wb = Some (record slot { result = if is_load slot.instr then word else slot.result }) };
}

-- From EX to M, where M is empty.
abbrev pub advanced : ℕ → Flight → Option Slot → Option Slot → Flight
advanced clock flight (Some older) ex = flight
advanced clock flight None None = flight
advanced clock flight None (Some slot) =
    record flight { stages = record flight.stages { mem = Some slot; ex = None }; mem_times = record flight.ex_times { e = clock } }

-- An instruction with its operands, and what it computes from them.
abbrev pub with_operands : Slot → Operands → Slot
with_operands slot read = record slot {
  a = read.a;
  b = read.b;
  c = read.c;
  result = result_where slot.instr read.a read.b slot.pc;
}

-- From ID to EX, where EX is empty and the operands are there. A branch is decided here.
abbrev pub issued : ℕ → Option Operands → Flight → Option Slot → Option Slot → Flight
issued clock operands flight (Some older) id = flight
issued clock operands flight None None = flight
issued clock None flight None (Some slot) = flight
issued clock (Some read) flight None (Some slot) = record flight {
  front_dpc = flight.front_pc;
  front_pc = next_pc_where slot.instr read.a read.b slot.pc;
  stages = record flight.stages { ex = Some (with_operands slot read); id = None };
  ex_times = record flight.id_times { d = clock };
}

-- The place of the next instruction to begin: it follows the one in ID.
abbrev pub follow : Option Slot → ℕ → ℕ → ℕ
follow None front_dpc front_pc = front_dpc
follow (Some slot) front_dpc front_pc = front_pc

-- An instruction begins in IF, where none is there and one comes.
abbrev pub begun_in : ℕ → Option (Option Instr) → Flight → Option Slot → Flight
begun_in clock word flight (Some older) = flight
begun_in clock None flight None = flight
begun_in clock (Some instr) flight None = record flight {
  fetch = Some (record {
    dpc = follow flight.stages.id flight.front_dpc flight.front_pc;
    pc = 0;
    instr = instr;
    a = 0;
    b = 0;
    c = 0;
    result = 0;
  });
  fetch_times = record { i = clock; f = 0; d = 0; e = 0 };
}

-- From IF to ID, where ID is empty.
abbrev pub entered : ℕ → Flight → Option Slot → Option Slot → Flight
entered clock flight (Some older) fetch = flight
entered clock flight None None = flight
entered clock flight None (Some slot) = record flight {
  fetch = None;
  stages = record flight.stages { id = Some (record slot { pc = flight.front_pc }) };
  id_times = record flight.fetch_times { f = clock };
}
