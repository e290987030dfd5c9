-- What an instruction in a stage does to the registers.
use Rattle.std.specs.Prelude.{ℕ, ◌==◌, ◌&&◌, nat_lt, Bool, false, Option, Some, None, IfSome}
use Rattle.mips_isa.specs.declared.Instr.{Instr}
use Rattle.mips_isa.specs.declared.Kind.{Kind}
use Rattle.mips_isa.specs.Words.{IsProper}
use Rattle.mips_isa.specs.Kinds.{loads}
use Rattle.mips_isa.specs.Effects.{kind_of, written_by}
use Rattle.pipe_regs.specs.declared.Slot.{Slot}
use Rattle.pipe_regs.specs.declared.Stages.{Stages}

-- Whether an access, where there is one, writes what memory had into a register.
abbrev pub loads_where : Option Kind → Bool
loads_where None = false
loads_where (Some kind) = loads kind

-- Whether an instruction, where there is one, receives its register from memory.
abbrev pub is_load : Option Instr → Bool
is_load None = false
is_load (Some instr) = loads_where (kind_of instr)

-- Whether an instruction, where there is one, writes a register other than register 0.
abbrev pub is_written_by : Option Instr → ℕ → Bool
is_written_by None r = false
is_written_by (Some instr) r = nat_lt 0 r && (written_by instr == r)

-- Where there is an instruction, it is proper.
abbrev pub IsProperWhere : Option Instr → Type 0
IsProperWhere instr = IfSome instr (λ i. IsProper i)

-- Where a stage holds an instruction, it is proper.
abbrev pub HoldsProper : Option Slot → Type 0
HoldsProper stage = IfSome stage (λ (slot : Slot). IsProperWhere slot.instr)

-- Each instruction in a stage is proper.
pub record AreProper (stages : Stages) : Type 0 where
  pub id : HoldsProper stages.id
  pub ex : HoldsProper stages.ex
  pub mem : HoldsProper stages.mem
  pub wb : HoldsProper stages.wb
