-- Which stages move, as the stall engine says.
use Rattle.std.specs.Prelude.{◌≡◌, ℕ, not, ◌&&◌, ◌||◌, Option, is_some}
use Rattle.mips_isa.specs.declared.Instr.{Instr}
use Rattle.stall_engine.specs.declared.Enables.{Enables}
use Rattle.pipe_core.specs.declared.flight.Flight.{Flight}
use Rattle.pipe_core.specs.declared.flight.Operands.{Operands}

-- A stage moves where it is full, has no hazard, and the next stage is empty or moves.
pub record AreEnabled (enables : Enables) (flight : Flight) (goes : Option ℕ) (operands : Option Operands)
    (word : Option (Option Instr)) : Type 0 where
  pub mem : enables.mem ≡ is_some flight.stages.mem && is_some goes
  pub ex : enables.ex ≡ is_some flight.stages.ex && (not (is_some flight.stages.mem) || enables.mem)
  pub id : enables.id ≡ is_some flight.stages.id && (is_some operands && (not (is_some flight.stages.ex) || enables.ex))
  pub fetch : enables.fetch ≡ (is_some flight.fetch || is_some word) && (not (is_some flight.stages.id) || enables.id)
