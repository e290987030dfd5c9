-- The phases of a transaction, in their order.
use Rattle.std.specs.Prelude.{ℕ, Bool, true, false, ◌==◌, if◌then◌else◌}
use Rattle.moesi_master.specs.declared.Phase.{Phase}
use Rattle.moesi_master.specs.declared.Phase.TheVariants.{Off, Flush, Address, Look, Supply, Act, Finish}

-- Whether a transaction is on.
abbrev pub is_on : Phase → Bool
is_on Off = false
is_on phase = true

-- The first phase of a transaction: its victim's words are written back where main memory is behind them.
abbrev pub first_phase : Bool → Phase
first_phase is_victim_dirty = if is_victim_dirty then Flush else Address

-- The phase after a transition, where so many caches still have to look or act after it, and where the words are wanted or not.
abbrev pub phase_after : Phase → ℕ → Bool → Phase
phase_after Flush left supply = Address
phase_after Address left supply = Look
phase_after Look left supply = if left == 0 then (if supply then Supply else Act) else Look
phase_after Supply left supply = Act
phase_after Act left supply = if left == 0 then Finish else Act
phase_after Finish left supply = Off
phase_after Off left supply = Off
