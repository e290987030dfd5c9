-- Code has an instruction at each of its addresses, and no step writes register 0.
use Rattle.std.proofs.Common.{◌≡◌, ℕ, ◌*◌, ◌/◌, ◌<◌, List, length, arith, IsSome}
use Rattle.std.specs.Prelude.{slice_index}
use Rattle.std.proofs.lemmas.Option.{slice_get-get_or}
use Rattle.std.proofs.lemmas.Grind.{common_steps}
use Rattle.std.proofs.lemmas.Bool.Decides.{nat_tests}
use Rattle.mips_isa.specs.declared.Instr.{Instr}
use Rattle.mips_isa.specs.declared.Kind.{Kind}
use Rattle.mips_isa.specs.declared.CoreState.{CoreState}
use Rattle.mips_isa.specs.Steps.{instr_at, IsCode, written_to, executed, answered, KeepsZero}

-- Where each word spells an instruction, one is found below the end.
pub instr_at-code : (code : List ℕ) (addr : ℕ) → IsCode code → addr < 4 * length code → IsSome (instr_at code addr)
unfolding instr_at
instr_at-code code addr is_code below =
    let within : addr / 4 < length code = omega arith in
    rw (slice_get-get_or code (addr / 4) 0 within) (is_code (addr / 4) 0 within)

-- A write leaves register 0 as it is.
written_to-zero : (regs : List ℕ) (r value : ℕ) → slice_index (written_to regs r value) 0 ≡ slice_index regs 0
written_to-zero regs r value = grind (arith, nat_tests, common_steps)

-- So does an instruction without an access.
pub executed-zero : (instr : Instr) (state : CoreState) → KeepsZero state (executed instr state)
unfolding executed
executed-zero instr state = written_to-zero state.regs _ _

-- So does an instruction with an access.
pub answered-zero : (instr : Instr) (kind : Kind) (old : ℕ) (state : CoreState) → KeepsZero state (answered instr kind old state)
unfolding answered
answered-zero instr kind old state = written_to-zero state.regs _ _
