-- The instructions that a core executes by itself, by what its accesses find in memory.
use Rattle.std.specs.Prelude.{ℕ, zero, suc, ◌*◌, if◌then◌else◌, Option, Some, None, List, [], ◌∷◌, length}
use Rattle.std.specs.Option.{option_and_then}
use Rattle.mips_isa.specs.declared.Instr.{Instr}
use Rattle.mips_isa.specs.declared.CoreState.{CoreState}
use Rattle.mips_isa.specs.declared.Next.{Next}
use Rattle.mips_isa.specs.declared.Next.TheVariants.{Stops, Asks, Goes}
use Rattle.mips_isa.specs.Effects.{is_off_code}
use Rattle.mips_isa.specs.Steps.{instr_at, next_of, finish_of}

-- Where a core stands, and what its accesses to come find.
pub record Walk : Type 0 where
  pub state : CoreState
  pub olds : List ℕ

-- Behind what comes next: nowhere at a stop, and where an access has nothing to find.
abbrev pub walk_by : List ℕ → CoreState → List ℕ → Next → Option Walk
walk_by code s olds (Goes state) = Some (record { state = state; olds = olds })
walk_by code s [] (Asks access) = None
walk_by code s (old ∷ olds) (Asks access) = Some (record { state = finish_of code s old; olds = olds })
walk_by code s olds (Stops why) = None

-- Behind so many instructions.
unfoldable pub walks : List ℕ → ℕ → ℕ → CoreState → List ℕ → Option Walk
walks code bytes zero s olds = Some (record { state = s; olds = olds })
walks code bytes (suc n) s olds =
    option_and_then (λ (w : Walk). walks code bytes n w.state w.olds) (walk_by code s olds (next_of code bytes s))

-- The instruction at an address; none off the code.
abbrev pub instr_on : List ℕ → ℕ → Option Instr
instr_on code dpc = if is_off_code (4 * length code) dpc then None else instr_at code dpc

-- So many instructions, as far as the core goes.
unfoldable pub trace : List ℕ → ℕ → ℕ → CoreState → List ℕ → List (Option Instr)
trace code bytes zero s olds = []
trace code bytes (suc n) s olds = instr_on code s.dpc ∷ elim (walk_by code s olds (next_of code bytes s)) [
  | Some w ↦ trace code bytes n w.state w.olds
  | None ↦ []
]
