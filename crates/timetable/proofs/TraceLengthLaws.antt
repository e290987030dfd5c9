-- A core that runs alone executes as many instructions as it is to.
use Rattle.std.proofs.Common.{◌≡◌, ℕ, zero, suc, ◌+◌, ◌-◌, refl, ap, sym, ◌∙◌, arith, List, [], ◌∷◌, ◌++◌, length, map}
use Rattle.std.specs.Prelude.{Some}
use Rattle.std.proofs.lemmas.List.{append-nil}
use Rattle.std.proofs.lemmas.Option.{none-some, same_Some}
use Rattle.std_laws.proofs.OptionLaws.{option_and_then_parts, cond_some_parts}
use Rattle.mips_isa.specs.declared.CoreState.{CoreState}
use Rattle.mips_isa.specs.declared.Next.{Next}
use Rattle.mips_isa.specs.declared.Next.TheVariants.{Stops, Asks, Goes}
use Rattle.mips_isa.specs.Steps.{next_of}
use Rattle.access_log.specs.declared.Core.{Core}
use Rattle.access_log.specs.declared.Entry.{Entry}
use Rattle.access_log.specs.Memory.{made, is_same}
use Rattle.access_log.specs.Replay.{quiet, quiet_steps, caught_up, finished, starting, own_by, own_step, own_steps}
use Rattle.access_log.proofs.ReplayLaws.{CaughtUp-from}
use Rattle.timetable.specs.Trace.{Walk, walk_by, trace}

-- What accesses found.
abbrev found : List Entry → List ℕ
found order = map (λ (entry : Entry). entry.old) order

module _ (code : List ℕ) (bytes : ℕ) where
  abbrev executed : ℕ → CoreState → List ℕ → ℕ
  executed n s olds = length (trace code bytes n s olds)

  executed-zero : (s : CoreState) → executed 0 s [] ≡ 0
  unfolding trace
  executed-zero s = refl

  -- One instruction, and those behind it.
  executed-suc : (n : ℕ) (s : CoreState) (olds : List ℕ) (w : Walk) → walk_by code s olds (next_of code bytes s) ≡ Some w
      → executed (suc n) s olds ≡ suc (executed n w.state w.olds)
  unfolding trace
  executed-suc n s olds w e = rw e refl

  walk-quiet : (s state : CoreState) (olds : List ℕ) (next : Next) → quiet next ≡ Some state
      → walk_by code s olds next ≡ Some (record { state = state; olds = olds })
  walk-quiet s state olds (Goes t) e = ap (λ (t : CoreState). Some (record { state = t; olds = olds })) (same_Some t state e)
  walk-quiet s state olds (Asks access) e = absurd (none-some state e)
  walk-quiet s state olds (Stops stop) e = absurd (none-some state e)

  -- Quiet instructions, and those behind them.
  executed-quiet : (k n : ℕ) (s there : CoreState) (olds : List ℕ) → quiet_steps code bytes k s ≡ Some there
      → executed (n + k) s olds ≡ executed n there olds + k
  unfolding quiet_steps
  executed-quiet zero n s there olds e =
      let sum : n + 0 ≡ n = omega arith in
      let all : executed (n + 0) s olds ≡ executed n there olds =
      ap (λ m. executed m s olds) sum ∙ ap (λ (t : CoreState). executed n t olds) (same_Some s there e) in
      omega (arith, all)
  executed-quiet (suc k) n s there olds e =
      let first = option_and_then_parts (quiet_steps code bytes k) (quiet (next_of code bytes s)) there e in
      let sum : n + suc k ≡ suc (n + k) = omega arith in
      let all : executed (n + suc k) s olds ≡ suc (executed (n + k) first.0 olds) =
      ap (λ m. executed m s olds) sum ∙ executed-suc (n + k) s olds _ (walk-quiet s first.0 olds (next_of code bytes s) first.1) in
      omega (arith, all, executed-quiet k n first.0 there olds first.2)

  walk-own : (entry : Entry) (olds : List ℕ) (core new : Core) (next : Next) → own_by code entry core next ≡ Some new
      → (walk_by code core.state (entry.old ∷ olds) next ≡ Some (record { state = new.state; olds = olds }))
      × (new.executed ≡ core.executed + 1)
  walk-own entry olds core new (Goes state) e = absurd (none-some new e)
  walk-own entry olds core new (Stops stop) e = absurd (none-some new e)
  walk-own entry olds core new (Asks access) e =
      let due = made entry.core core.executed access entry.old in
      let parts = cond_some_parts (is_same entry due) (Some (finished code entry.old core)) new e in
      let after_it = same_Some (finished code entry.old core) new parts.1 in (
        ap (λ (c : Core). Some (record { state = c.state; olds = olds })) after_it,
        sym (ap (λ (c : Core). c.executed) after_it),
      )

  -- Those up to the last of a core's own accesses, and those behind it.
  executed-own : (order : List Entry) (n : ℕ) (more : List ℕ) (core final : Core) → own_steps code bytes order core ≡ Some final
      → (k : ℕ) × (final.executed ≡ core.executed + k)
      × (executed (n + k) core.state (found order ++ more) ≡ executed n final.state more + k)
  unfolding own_step own_steps
  executed-own [] n more core final e =
      let same = same_Some core final e in
      let sum : n + 0 ≡ n = omega arith in
      let all : executed (n + 0) core.state more ≡ executed n final.state more =
      ap (λ m. executed m core.state more) sum ∙ ap (λ (c : Core). executed n c.state more) same in
      (0, omega (arith, ap (λ (c : Core). c.executed) same), omega (arith, all))
  executed-own (entry ∷ order) n more core final e =
      let first = option_and_then_parts (own_steps code bytes order) (own_step code bytes entry core) final e in
      let there = option_and_then_parts (λ (there : Core). own_by code entry there (next_of code bytes there.state))
      (caught_up code bytes entry.nth core) first.0 first.1 in
      let caught = CaughtUp-from code bytes entry.nth core there.0 there.1 in
      let olds = found order ++ more in
      let step = walk-own entry olds there.0 first.0 (next_of code bytes there.0.state) there.2 in
      let others = executed-own order n more first.0 final first.2 in
      let quiet = entry.nth - core.executed in
      let sum : n + (others.0 + 1 + quiet) ≡ suc (n + others.0) + quiet = omega arith in
      let here : executed (suc (n + others.0)) there.0.state (entry.old ∷ olds) ≡ suc (executed n final.state more + others.0) =
      executed-suc (n + others.0) there.0.state (entry.old ∷ olds) _ step.0 ∙ ap suc others.2 in
      let all : executed (n + (others.0 + 1 + quiet)) core.state (entry.old ∷ olds)
      ≡ executed (suc (n + others.0)) there.0.state (entry.old ∷ olds) + quiet =
      ap (λ m. executed m core.state (entry.old ∷ olds)) sum
      ∙ executed-quiet quiet (suc (n + others.0)) core.state there.0.state (entry.old ∷ olds) caught.steps in (
        others.0 + 1 + quiet,
        omega (arith, caught.before, caught.count, step.1, others.1),
        omega (arith, all, here),
      )

  pub length-trace : (order : List Entry) (n : ℕ) (start : CoreState) (mid final : Core)
      → own_steps code bytes order (starting start) ≡ Some mid → caught_up code bytes n mid ≡ Some final
      → length (trace code bytes n start (map (λ (entry : Entry). entry.old) order)) ≡ n
  length-trace order n start mid final steps end =
      let caught = CaughtUp-from code bytes n mid final end in
      let quiet = n - mid.executed in
      let own = executed-own order quiet [] (starting start) mid steps in
      let sum : n ≡ quiet + own.0 = omega (arith, caught.before, own.1) in
      let all : executed n start (found order) ≡ executed quiet mid.state [] + own.0 =
      ap (λ m. executed m start (found order)) sum
      ∙ ap (λ olds. executed (quiet + own.0) start olds) (sym (append-nil (found order))) ∙ own.2 in
      let zero_more : quiet ≡ 0 + quiet = omega arith in
      let last : executed quiet mid.state [] ≡ executed 0 final.state [] + quiet =
      ap (λ m. executed m mid.state []) zero_more ∙ executed-quiet quiet 0 mid.state final.state [] caught.steps in
      omega (arith, sum, all, last, executed-zero final.state)
