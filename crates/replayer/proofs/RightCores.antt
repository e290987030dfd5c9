-- A core that has come as far as it can has caught up exactly where it has executed so many instructions.
use Rattle.std.proofs.Common.{◌≡◌, ℕ, zero, suc, ◌+◌, ◌-◌, ◌<◌, ◌≤◌, List, refl, sym, ap, ◌∙◌, arith, inl, inr}
use Rattle.std.specs.Prelude.{Option, Some, None}
use Rattle.std.specs.Option.{option_and_then}
use Rattle.std.proofs.lemmas.Bool.{cases_lt}
use Rattle.std.proofs.lemmas.Option.{none-some, same_Some}
use Rattle.mips_isa.specs.declared.CoreState.{CoreState}
use Rattle.mips_isa.specs.Steps.{next_of}
use Rattle.access_log.specs.declared.Core.{Core}
use Rattle.access_log.specs.Replay.{quiet, quiet_steps, caught_up}
use Rattle.access_log.proofs.ReplayLaws.{CaughtUp-from, caught_up-to}
use Rattle.replayer.specs.Cores.{farthest}

-- a core that has executed so many instructions
abbrev pub core_of : ℕ → CoreState → Core
core_of n state = record { state = state; executed = n }

-- by what comes next, a step farther
abbrev pub farther : List ℕ → ℕ → ℕ → Core → Option CoreState → Core
farther code bytes steps core next = elim next [ Some state ↦ farthest code bytes steps (core_of (core.executed + 1) state) | None ↦ core ]

-- after so many steps
farthest-steps : (code : List ℕ) (bytes steps : ℕ) (core : Core) → (farthest code bytes steps core).executed ≡ core.executed + steps
    → quiet_steps code bytes steps core.state ≡ Some (farthest code bytes steps core).state
unfolding farthest quiet_steps
farthest-steps code bytes zero core all = refl
farthest-steps code bytes (suc steps) core all =
    by_next (λ state. farthest-steps code bytes steps (core_of (core.executed + 1) state)) (quiet (next_of code bytes core.state)) all
  where
    by_next : ((state : CoreState) → (farthest code bytes steps (core_of (core.executed + 1) state)).executed ≡ core.executed + 1 + steps
        → quiet_steps code bytes steps state ≡ Some (farthest code bytes steps (core_of (core.executed + 1) state)).state)
        → (next : Option CoreState) → (farther code bytes steps core next).executed ≡ core.executed + suc steps
        → option_and_then (quiet_steps code bytes steps) next ≡ Some (farther code bytes steps core next).state
    by_next others (Some state) all = others state (omega (arith, all))
    by_next others None all = absurd (omega (arith, all))

steps-farthest : (code : List ℕ) (bytes steps : ℕ) (core : Core) (state : CoreState) → quiet_steps code bytes steps core.state ≡ Some state
    → farthest code bytes steps core ≡ core_of (core.executed + steps) state
unfolding farthest quiet_steps
steps-farthest code bytes zero core state all =
    let e : core.executed ≡ core.executed + 0 = omega arith in
    ap (core_of core.executed) (same_Some core.state state all) ∙ ap (λ n. core_of n state) e
steps-farthest code bytes (suc steps) core state all =
    by_next (λ there. steps-farthest code bytes steps (core_of (core.executed + 1) there) state) (quiet (next_of code bytes core.state)) all
  where
    by_next : ((there : CoreState) → quiet_steps code bytes steps there ≡ Some state
        → farthest code bytes steps (core_of (core.executed + 1) there) ≡ core_of (core.executed + 1 + steps) state)
        → (next : Option CoreState) → option_and_then (quiet_steps code bytes steps) next ≡ Some state
        → farther code bytes steps core next ≡ core_of (core.executed + suc steps) state
    by_next others (Some there) all =
        let e : core.executed + 1 + steps ≡ core.executed + suc steps = omega arith in
        others there all ∙ ap (λ n. core_of n state) e
    by_next others None all = absurd (none-some state all)

-- no step, where more are executed
farthest-passed : (code : List ℕ) (bytes n : ℕ) (core : Core) → n < core.executed → farthest code bytes (n - core.executed) core ≡ core
unfolding farthest
farthest-passed code bytes n core more =
    let none : n - core.executed ≡ 0 = omega arith in
    rw none refl

pub caught_up-farthest : (code : List ℕ) (bytes n : ℕ) (core : Core) → (farthest code bytes (n - core.executed) core).executed ≡ n
    → caught_up code bytes n core ≡ Some (farthest code bytes (n - core.executed) core)
caught_up-farthest code bytes n core all = elim (cases_lt n core.executed) [
  | inl more ↦
      (let none : core.executed ≡ n = sym (ap (λ (c : Core). c.executed) (farthest-passed code bytes n core more)) ∙ all in
      absurd (omega arith))
  | inr within ↦
      (let e : n ≡ core.executed + (n - core.executed) = omega arith in
      caught_up-to code bytes n core (farthest code bytes (n - core.executed) core)
      (record { before = within; steps = farthest-steps code bytes (n - core.executed) core (all ∙ e); count = all }))
]

pub farthest-caught_up : (code : List ℕ) (bytes n : ℕ) (core final : Core) → caught_up code bytes n core ≡ Some final
    → farthest code bytes (n - core.executed) core ≡ final
farthest-caught_up code bytes n core final caught =
    let is = CaughtUp-from code bytes n core final caught in
    let within : core.executed ≤ n = is.before in
    let e : core.executed + (n - core.executed) ≡ n = omega arith in
    steps-farthest code bytes (n - core.executed) core final.state is.steps ∙ ap (λ m. core_of m final.state) (e ∙ sym is.count)
