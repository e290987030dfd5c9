-- One clock of the instructions under way, from the oldest to the youngest.
use Rattle.std.specs.Prelude.{◌≡◌, ℕ, Option, Some, None, length}
use Rattle.mips_isa.specs.declared.Instr.{Instr}
use Rattle.pipe_regs.specs.Slots.{IsProperWhere, HoldsProper, AreProper}
use Rattle.pipe_core.specs.declared.flight.Flight.{Flight}
use Rattle.pipe_core.specs.declared.flight.Operands.{Operands}
use Rattle.pipe_core.specs.Moves.{committed_in, retired, advanced, issued, begun_in, entered}

unfoldable pub commits : Flight → Flight
commits flight = committed_in flight flight.stages.wb

abbrev pub retired_where : Option ℕ → Flight → Flight
retired_where None flight = flight
retired_where (Some word) flight = retired word flight flight.stages.mem

-- Where a word is told, the instruction in M is executed, and a load receives it.
unfoldable pub retires : Option ℕ → Flight → Flight
retires goes flight = retired_where goes flight

unfoldable pub advances : ℕ → Flight → Flight
advances clock flight = advanced clock flight flight.stages.mem flight.stages.ex

unfoldable pub issues : ℕ → Option Operands → Flight → Flight
issues clock operands flight = issued clock operands flight flight.stages.ex flight.stages.id

unfoldable pub begins : ℕ → Option (Option Instr) → Flight → Flight
begins clock word flight = begun_in clock word flight flight.fetch

unfoldable pub enters : ℕ → Flight → Flight
enters clock flight = entered clock flight flight.stages.id flight.fetch

-- A clock: each stage makes room for the one behind it.
unfoldable pub stepped : Option ℕ → Option Operands → Option (Option Instr) → ℕ → Flight → Flight
stepped goes operands word clock flight =
    enters clock (begins clock word (issues clock operands (advances clock (retires goes (commits flight)))))

-- Every instruction under way is proper, and there are 32 registers.
pub record IsFit (flight : Flight) : Type 0 where
  pub proper : AreProper flight.stages
  pub fetched : HoldsProper flight.fetch
  pub regs : length flight.stages.regs ≡ 32

abbrev pub IsProperWord : Option (Option Instr) → Type 0
IsProperWord None = Unit {0}
IsProperWord (Some instr) = IsProperWhere instr

-- Nothing is under way.
pub record IsEmpty (flight : Flight) : Type 0 where
  pub id : flight.stages.id ≡ None
  pub ex : flight.stages.ex ≡ None
  pub mem : flight.stages.mem ≡ None
  pub fetch : flight.fetch ≡ None
