-- When instructions go on: a stage keeps its instruction with its clocks, or it is empty, or the instruction of the stage
-- before has come in this clock, which is the clock in which it left that stage.
use Rattle.std.specs.Prelude.{◌≡◌, ℕ, ◌⊎◌, Option, Some, None}
use Rattle.pipe_regs.specs.declared.Slot.{Slot}
use Rattle.pipe_core.specs.declared.flight.Times.{Times}
use Rattle.pipe_core.specs.declared.flight.Flight.{Flight}
use Rattle.pipe_core.specs.declared.flight.Operands.{Operands}
use Rattle.pipe_core.specs.Moves.{with_operands}

pub record Same (old new : Option Slot) (old_times new_times : Times) : Type 0 where
  pub slot : new ≡ old
  pub clocks : new_times ≡ old_times

pub record LeftEx (clock : ℕ) (old new : Flight) : Type 0 where
  pub slot : new.stages.mem ≡ old.stages.ex
  pub clocks : new.mem_times ≡ record old.ex_times { e = clock }

pub record LeftId (clock : ℕ) (old new : Flight) : Type 0 where
  pub held : Slot
  pub read : Operands
  pub was : old.stages.id ≡ Some held
  pub slot : new.stages.ex ≡ Some (with_operands held read)
  pub clocks : new.ex_times ≡ record old.id_times { d = clock }

-- It began in this clock, where IF was empty.
pub record Began (clock : ℕ) (old : Flight) (times : Times) : Type 0 where
  pub empty : old.fetch ≡ None
  pub clock_is : times.i ≡ clock

-- It was in IF, or it began in this clock.
pub record LeftIf (clock : ℕ) (old new : Flight) : Type 0 where
  pub held : Slot
  pub times : Times
  pub was : ((old.fetch ≡ Some held) × (times ≡ old.fetch_times)) ⊎ Began clock old times
  pub slot : (pc : ℕ) × (new.stages.id ≡ Some (record held { pc = pc }))
  pub clocks : new.id_times ≡ record times { f = clock }

pub record IsPassage (clock : ℕ) (old new : Flight) : Type 0 where
  pub to_mem : Same old.stages.mem new.stages.mem old.mem_times new.mem_times ⊎ ((new.stages.mem ≡ None) ⊎ LeftEx clock old new)
  pub to_ex : Same old.stages.ex new.stages.ex old.ex_times new.ex_times ⊎ ((new.stages.ex ≡ None) ⊎ LeftId clock old new)
  pub to_id : Same old.stages.id new.stages.id old.id_times new.id_times ⊎ ((new.stages.id ≡ None) ⊎ LeftIf clock old new)
  pub to_fetch : Same old.fetch new.fetch old.fetch_times new.fetch_times ⊎ ((new.fetch ≡ None) ⊎ Began clock old new.fetch_times)
