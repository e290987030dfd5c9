-- What a core asks for may be asked of memory.
use Rattle.std.proofs.Common.{◌≡◌, ℕ, ◌*◌, Bool, true, false, List, length, refl, sym, ◌∙◌, arith, subst}
use Rattle.std.specs.Prelude.{Option, Some, None, if◌then◌else◌}
use Rattle.std.proofs.lemmas.Bool.Decides.{nat_tests}
use Rattle.mips_isa.specs.declared.Instr.{Instr}
use Rattle.mips_isa.specs.declared.Instr.TheVariants.{Shift, ShiftBy, Alu, AluImm, Lui, BranchTwo, BranchZero, Jump, JumpReg, JumpLink, Lw}
use Rattle.mips_isa.specs.declared.Instr.TheVariants.{Sw, Cas, Halt}
use Rattle.mips_isa.specs.declared.Kind.{Kind}
use Rattle.mips_isa.specs.declared.Kind.TheVariants as kinds
use Rattle.mips_isa.specs.declared.Stop.{Stop}
use Rattle.mips_isa.specs.declared.Stop.TheVariants as stops
use Rattle.mips_isa.specs.declared.Access.{Access}
use Rattle.mips_isa.specs.declared.CoreState.{CoreState}
use Rattle.mips_isa.specs.declared.Next.TheVariants.{Asks}
use Rattle.mips_isa.specs.Effects.{kind_of, address_of, access_stop, instr_stop, first_stop, is_off_code, IsProperAddress}
use Rattle.mips_isa.specs.Steps.{rs_value, rs_value_at, instr_at, stop_of, next_by, next_at, next_of, IsAccess, MayAccess}

-- An access without a stop is allowed.
access_stop-none : (cb mb : ℕ) (k : Kind) (a : ℕ) → access_stop cb mb k a ≡ None → IsProperAddress cb mb (Some k) a
access_stop-none cb mb kinds.Fetch a h = (grind (arith, nat_tests), grind (arith, nat_tests), λ e. grind (arith, nat_tests))
access_stop-none cb mb kinds.Lw a h = (grind (arith, nat_tests), grind (arith, nat_tests), λ e. grind (arith, nat_tests))
access_stop-none cb mb kinds.Sw a h = (grind (arith, nat_tests), grind (arith, nat_tests), λ e. grind (arith, nat_tests))
access_stop-none cb mb kinds.Cas a h = (grind (arith, nat_tests), grind (arith, nat_tests), λ e. grind (arith, nat_tests))

-- Two requests are one where what `next` answers is one.
same_access : (x y : Access) → Asks x ≡ Asks y → x ≡ y
same_access x y e = cc

-- An instruction that makes an access asks for it only where it may be asked.
allowed : (cb mb : ℕ) (s : CoreState) (i : Instr) (k : Kind) (x a : Access) (o : Option Stop) → IsAccess k → x.kind ≡ k
    → o ≡ access_stop cb mb k x.addr → next_by s i (kind_of i) ≡ Asks x
    → next_at s o (Some i) ≡ Asks a → MayAccess cb mb a.kind a.addr
allowed cb mb s i k x a (Some why) is kind stop makes h = cc
allowed cb mb s i k x a None is kind stop makes h =
    let P : Access → Type 0 = λ y. MayAccess cb mb y.kind y.addr in
    let Q : Kind → Type 0 = λ y. MayAccess cb mb y x.addr in
    subst P (same_access x a (sym makes ∙ h)) (subst Q (sym kind) (is, access_stop-none cb mb k x.addr (sym stop)))

-- So it is for each instruction.
by_instr : (cb mb : ℕ) (s : CoreState) (i : Instr) (a : Access) → next_at s (instr_stop cb mb (Some i) (rs_value s i)) (Some i) ≡ Asks a
    → MayAccess cb mb a.kind a.addr
unfolding instr_stop kind_of address_of
by_instr cb mb s (Shift op rd rt sa) a h = cc
by_instr cb mb s (ShiftBy op rd rt rs) a h = cc
by_instr cb mb s (Alu op rd rs rt) a h = cc
by_instr cb mb s (AluImm op rt rs imm) a h = cc
by_instr cb mb s (Lui rt imm) a h = cc
by_instr cb mb s (BranchTwo differ rs rt imm) a h = cc
by_instr cb mb s (BranchZero op rs imm) a h = cc
by_instr cb mb s (Jump link index) a h = cc
by_instr cb mb s (JumpReg rs) a h = cc
by_instr cb mb s (JumpLink rd rs) a h = cc
by_instr cb mb s (Lw rt rs imm) a h = allowed cb mb s (Lw rt rs imm) kinds.Lw _ a _ tt refl refl refl h
by_instr cb mb s (Sw rt rs imm) a h = allowed cb mb s (Sw rt rs imm) kinds.Sw _ a _ tt refl refl refl h
by_instr cb mb s (Cas rd rs rt) a h = allowed cb mb s (Cas rd rs rt) kinds.Cas _ a _ tt refl refl refl h
by_instr cb mb s Halt a h = cc

-- Without an instruction nothing is asked for.
no_instr : (s : CoreState) (o : Option Stop) (a : Access) → next_at s o None ≡ Asks a → ⊥
no_instr s None a h = cc
no_instr s (Some why) a h = cc

-- So it is on the code and off it.
by_place : (cb mb : ℕ) (s : CoreState) (b : Bool) (o : Option Instr) (a : Access)
    → next_at s (if b then Some stops.OffCode else instr_stop cb mb o (rs_value_at s o)) o ≡ Asks a → MayAccess cb mb a.kind a.addr
by_place cb mb s true None a h = cc
by_place cb mb s true (Some i) a h = cc
by_place cb mb s false None a h = absurd (no_instr s _ a h)
by_place cb mb s false (Some i) a h = by_instr cb mb s i a h

-- What a core asks for may be asked of memory.
pub next-may : (code : List ℕ) (bytes : ℕ) (s : CoreState) (a : Access) → next_of code bytes s ≡ Asks a
    → MayAccess (4 * length code) bytes a.kind a.addr
unfolding next_of stop_of first_stop
next-may code bytes s a h = by_place (4 * length code) bytes s (is_off_code (4 * length code) s.dpc) (instr_at code s.dpc) a h
