-- What a run leaves, as contracts see it.
use Rattle.std.specs.Prelude.{◌≡◌, ℕ, ◌^◌, ◌<◌, Bool, true, false, List, length}
use Rattle.std.specs.List.{All}
use Rattle.mips_isa.specs.declared.CoreState.{CoreState}
use Rattle.access_log.specs.declared.Core.{Core}
use Rattle.access_log.specs.declared.Item.{Item}
use Rattle.mips_isa.specs.declared.Stop.TheVariants.{Halt}
use Rattle.timetable.specs.declared.End.{End}
use Rattle.timetable.specs.declared.End.TheVariants.{Stopped, Spent}
use Rattle.timetable.specs.declared.CoreEnd.{CoreEnd}

-- The end of each core, memory at the end, and all that was done, in order.
pub record OutcomeValue : Type 0 where
  pub cores : List CoreEnd
  pub words : List ℕ
  pub items : List Item

-- A core has 32 registers, and each of its words has 32 bits.
pub record IsState (state : CoreState) : Type 0 where
  pub pc : state.pc < 2 ^ 32
  pub dpc : state.dpc < 2 ^ 32
  pub registers : length state.regs ≡ 32
  pub words : All (λ word. word < 2 ^ 32) state.regs

-- The core of the sequential machine that stands where this one ended.
abbrev pub final_of : CoreEnd → Core
final_of ended = record { state = ended.state; executed = ended.retired }

-- Whether a core ended at a halt.
abbrev pub is_halt : End → Bool
is_halt (Stopped Halt) = true
is_halt (Stopped other) = false
is_halt Spent = false
