-- How the stages hold the sequential machine, run on past the oldest instruction that is not executed.
use Rattle.std.specs.Prelude.{◌≡◌, ℕ, Option, Some, None, if◌then◌else◌, List}
use Rattle.mips_isa.specs.declared.Instr.{Instr}
use Rattle.mips_isa.specs.declared.CoreState.{CoreState}
use Rattle.mips_isa.specs.Steps.{rs_value_at, rt_value, expected_value}
use Rattle.pipe_regs.specs.declared.Slot.{Slot}
use Rattle.pipe_regs.specs.Slots.{is_load}
use Rattle.timetable.specs.Trace.{instr_on}
use Rattle.pipe_core.specs.declared.flight.Flight.{Flight}
use Rattle.pipe_core.specs.Moves.{next_pc_where, result_where, regs_after, follow}

-- What an instruction reads beside rs.
abbrev pub rt_value_at : CoreState → Option Instr → ℕ
rt_value_at state None = 0
rt_value_at state (Some instr) = rt_value state instr

abbrev pub expected_value_at : CoreState → Option Instr → ℕ
expected_value_at state None = 0
expected_value_at state (Some instr) = expected_value state instr

-- The state after the instruction at dpc, where a load receives this word. It is told at a stop too: an instruction that
-- stops writes nothing and goes on, and an access that stops receives any word.
unfoldable pub passed : Option Instr → CoreState → ℕ → CoreState
passed instr state word = record {
  pc = next_pc_where instr (rs_value_at state instr) (rt_value_at state instr) state.pc;
  dpc = state.pc;
  regs = regs_after state.regs instr
      (if is_load instr then word else result_where instr (rs_value_at state instr) (rt_value_at state instr) state.pc);
}

-- The state behind a stage.
abbrev pub behind : Option Slot → CoreState → ℕ → CoreState
behind None state word = state
behind (Some slot) state word = passed slot.instr state word

-- A stage behind ID holds the instruction at dpc of a state, with what it reads there and computes from it.
pub record Holds (code : List ℕ) (state : CoreState) (slot : Slot) : Type 0 where
  pub dpc : slot.dpc ≡ state.dpc
  pub pc : slot.pc ≡ state.pc
  pub instr : slot.instr ≡ instr_on code state.dpc
  pub a : slot.a ≡ rs_value_at state slot.instr
  pub b : slot.b ≡ rt_value_at state slot.instr
  pub c : slot.c ≡ expected_value_at state slot.instr
  pub result : slot.result ≡ result_where slot.instr slot.a slot.b slot.pc

abbrev pub HoldsWhere : List ℕ → CoreState → Option Slot → Type 0
HoldsWhere code state None = Unit {0}
HoldsWhere code state (Some slot) = Holds code state slot

-- An instruction in ID or IF is the one at its place.
pub record IsAt (code : List ℕ) (place : ℕ) (slot : Slot) : Type 0 where
  pub dpc_is : slot.dpc ≡ place
  pub instr_is : slot.instr ≡ instr_on code place

abbrev pub FetchedWhere : List ℕ → ℕ → Option Slot → Type 0
FetchedWhere code place None = Unit {0}
FetchedWhere code place (Some slot) = IsAt code place slot

abbrev pub DecodesWhere : List ℕ → ℕ → ℕ → Option Slot → Type 0
DecodesWhere code dpc pc None = Unit {0}
DecodesWhere code dpc pc (Some slot) = IsAt code dpc slot × (slot.pc ≡ pc)

-- From the state of the oldest instruction on, whatever words the loads under way receive: M holds the instruction there,
-- EX the one behind it, and the front is the state behind both.
pub record Chained (code : List ℕ) (state : CoreState) (mem ex id fetch : Option Slot) (front_dpc front_pc : ℕ) : Type 0 where
  pub in_mem : HoldsWhere code state mem
  pub in_ex : (word : ℕ) → HoldsWhere code (behind mem state word) ex
  pub front_dpc_is : (word next : ℕ) → front_dpc ≡ (behind ex (behind mem state word) next).dpc
  pub front_pc_is : (word next : ℕ) → front_pc ≡ (behind ex (behind mem state word) next).pc
  pub in_id : DecodesWhere code front_dpc front_pc id
  pub in_fetch : FetchedWhere code (follow id front_dpc front_pc) fetch

-- What was read for the instruction in ID is right, whatever words the loads under way receive.
pub record AreRead (state : CoreState) (mem ex : Option Slot) (instr : Option Instr) (a b c : ℕ) : Type 0 where
  pub a_is : (word next : ℕ) → a ≡ rs_value_at (behind ex (behind mem state word) next) instr
  pub b_is : (word next : ℕ) → b ≡ rt_value_at (behind ex (behind mem state word) next) instr
  pub c_is : (word next : ℕ) → c ≡ expected_value_at (behind ex (behind mem state word) next) instr

-- The register file with the write of WB.
abbrev pub regs_of : List ℕ → Option Slot → List ℕ
regs_of regs None = regs
regs_of regs (Some slot) = regs_after regs slot.instr slot.result

-- The state of the sequential machine behind the executed instructions.
abbrev pub state_of : Flight → CoreState
state_of flight = record { pc = flight.pc; dpc = flight.dpc; regs = regs_of flight.stages.regs flight.stages.wb }

abbrev pub IsChained : List ℕ → CoreState → Flight → Type 0
IsChained code state flight =
    Chained code state flight.stages.mem flight.stages.ex flight.stages.id flight.fetch flight.front_dpc flight.front_pc
