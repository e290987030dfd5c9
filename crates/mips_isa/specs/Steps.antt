-- A core that executes instructions one at a time, each with its delay slot: pc is the address of the instruction behind
-- the one at dpc.
use Rattle.std.specs.Prelude.{◌≡◌, ℕ, ◌*◌, ◌/◌, ◌==◌, if◌then◌else◌, Option, Some, None, IsSome, List, replicate, length, slice_get}
use Rattle.std.specs.Prelude.{slice_index, slice_set}
use Rattle.std.specs.Option.{option_and_then}
use Rattle.std.specs.List.{All}
use Rattle.mips_isa.specs.declared.Instr.{Instr}
use Rattle.mips_isa.specs.declared.Kind.{Kind}
use Rattle.mips_isa.specs.declared.Kind.TheVariants as kinds
use Rattle.mips_isa.specs.declared.Stop.{Stop}
use Rattle.mips_isa.specs.declared.CoreState.{CoreState}
use Rattle.mips_isa.specs.declared.Next.{Next}
use Rattle.mips_isa.specs.declared.Next.TheVariants.{Stops, Asks, Goes}
use Rattle.mips_isa.specs.declared.Stop.TheVariants.{OffCode}
use Rattle.mips_isa.specs.Fields.{instr_of}
use Rattle.mips_isa.specs.Kinds.{part, loaded}
use Rattle.mips_isa.specs.Effects.{sum_of, rs_of, rt_of, expected_by, written_by, kind_of, address_of, result_of, next_pc_of, first_stop}
use Rattle.mips_isa.specs.Effects.{IsProperAddress}

-- The state in which a core begins: register 4 has its number, register 5 the count of the cores, all others 0.
unfoldable pub start : ℕ → ℕ → CoreState
start core cores = record {
  pc = 4;
  dpc = 0;
  regs = slice_set (slice_set (replicate 32 0) 4 core) 5 cores;
}

-- The registers after a write to register r. Register 0 keeps its 0.
abbrev pub written_to : List ℕ → ℕ → ℕ → List ℕ
written_to regs r value = if r == 0 then regs else slice_set regs r value

-- The registers after a write to a register other than register 0, where there is one.
abbrev pub written_where : List ℕ → Option ℕ → ℕ → List ℕ
written_where regs None value = regs
written_where regs (Some r) value = slice_set regs r value

-- What the register rs of an instruction holds.
abbrev pub rs_value : CoreState → Instr → ℕ
rs_value state instr = slice_index state.regs (rs_of instr)

-- What the register rt of an instruction holds, where it reads rt.
abbrev pub rt_value : CoreState → Instr → ℕ
rt_value state instr = slice_index state.regs (rt_of instr)

-- What the register rd of a compare and swap holds before it.
abbrev pub expected_value : CoreState → Instr → ℕ
expected_value state instr = slice_index state.regs (expected_by instr)

-- The state after an instruction that makes no access. All its registers are read before it writes.
unfoldable pub executed : Instr → CoreState → CoreState
executed instr state = record {
  pc = next_pc_of instr (rs_value state instr) (rt_value state instr) state.pc;
  dpc = state.pc;
  regs = written_to state.regs (written_by instr) (result_of instr (rs_value state instr) (rt_value state instr) state.pc);
}

-- The state after an instruction that makes an access of a kind, where the part of memory was old.
unfoldable pub answered : Instr → Kind → ℕ → CoreState → CoreState
answered instr kind old state = record {
  pc = sum_of state.pc 4;
  dpc = state.pc;
  regs = written_to state.regs (written_by instr) (loaded kind old);
}

-- The instruction that the code has at an address, where it has one. The code stands in memory from address 0.
unfoldable pub instr_at : List ℕ → ℕ → Option Instr
instr_at code addr = option_and_then instr_of (slice_get code (addr / 4))

-- What the register rs of an instruction holds, where there is an instruction.
abbrev pub rs_value_at : CoreState → Option Instr → ℕ
rs_value_at state None = 0
rs_value_at state (Some instr) = rs_value state instr

-- The stop at dpc, or none, for a memory of so many bytes.
unfoldable pub stop_of : List ℕ → ℕ → CoreState → Option Stop
stop_of code memory_bytes state =
    first_stop (4 * length code) memory_bytes state.dpc (instr_at code state.dpc) (rs_value_at state (instr_at code state.dpc))

-- What an instruction that does not stop does: it is executed, or asks for its access of a kind. The value asked for is
-- that part of rt, counted from its low end, that the access touches.
abbrev pub next_by : CoreState → Instr → Option Kind → Next
next_by state instr None = Goes (executed instr state)
next_by state instr (Some kind) = Asks (record {
  kind = kind;
  addr = address_of instr (rs_value state instr);
  expected = expected_value state instr;
  value = part kind 0 (rt_value state instr);
})

-- What a core does next, where its stop and its instruction are known. A word that spells nothing is not code.
abbrev pub next_at : CoreState → Option Stop → Option Instr → Next
next_at state (Some stop) instr = Stops stop
next_at state None None = Stops OffCode
next_at state None (Some instr) = next_by state instr (kind_of instr)

-- What a core does next.
unfoldable pub next_of : List ℕ → ℕ → CoreState → Next
next_of code memory_bytes state = next_at state (stop_of code memory_bytes state) (instr_at code state.dpc)

-- The state after the access that an instruction makes; where it makes none, the state as it was.
abbrev pub finish_by : CoreState → ℕ → Option Instr → Option Kind → CoreState
finish_by state old (Some instr) (Some kind) = answered instr kind old state
finish_by state old _ _ = state

-- The access that an instruction makes, where there is an instruction.
abbrev pub kind_at : Option Instr → Option Kind
kind_at None = None
kind_at (Some instr) = kind_of instr

-- The state after the access at dpc, where the part of memory was old.
unfoldable pub finish_of : List ℕ → CoreState → ℕ → CoreState
finish_of code state old = finish_by state old (instr_at code state.dpc) (kind_at (instr_at code state.dpc))

-- Each word of the code spells an instruction.
abbrev pub IsCode : List ℕ → Type 0
IsCode code = All (λ word. IsSome (instr_of word)) code

-- A kind that an instruction asks for, so not a fetch.
abbrev pub IsAccess : Kind → Type 0
IsAccess kinds.Fetch = ⊥
IsAccess kinds.Lw = Unit {0}
IsAccess kinds.Sw = Unit {0}
IsAccess kinds.Cas = Unit {0}

-- What may be asked of memory: an access that would not stop.
abbrev pub MayAccess : ℕ → ℕ → Kind → ℕ → Type 0
MayAccess code_bytes memory_bytes kind addr = IsAccess kind × IsProperAddress code_bytes memory_bytes (Some kind) addr

-- Where a core asks for an access, the access has no stop.
abbrev pub IsProperNext : List ℕ → ℕ → Next → Type 0
IsProperNext code memory_bytes (Asks access) = IsProperAddress (4 * length code) memory_bytes (Some access.kind) access.addr
IsProperNext code memory_bytes (Goes state) = Unit {0}
IsProperNext code memory_bytes (Stops stop) = Unit {0}

-- Register 0 holds what it held.
abbrev pub KeepsZero : CoreState → CoreState → Type 0
KeepsZero old new = slice_index new.regs 0 ≡ slice_index old.regs 0

-- Where a core goes on, register 0 holds what it held.
abbrev pub KeepsZeroNext : CoreState → Next → Type 0
KeepsZeroNext state (Goes new) = KeepsZero state new
KeepsZeroNext state (Asks access) = Unit {0}
KeepsZeroNext state (Stops stop) = Unit {0}
