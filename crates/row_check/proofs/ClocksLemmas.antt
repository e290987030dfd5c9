-- How far the first clocks of an instruction lie behind those before them, and registers that nothing has loaded.
use Rattle.std.proofs.Common.{◌≡◌, ℕ, zero, suc, ◌+◌, ◌<◌, ◌≤◌, arith, refl, slice_index_or}
use Rattle.std.specs.Prelude.{replicate}
use Rattle.std.proofs.lemmas.Grind.{common_steps}
use Rattle.timetable.specs.declared.rows.TimeRow.{TimeRow}
use Rattle.timetable.specs.Recurrence.{greater, due_f, due_d, due_e}
use Rattle.row_check.specs.Clocks.{IsRowWithin}

pub zero-at : (n k d : ℕ) → k < n → slice_index_or (replicate n 0) k d ≡ 0
zero-at zero k d below = absurd (omega arith)
zero-at (suc n) zero d below = refl
zero-at (suc n) (suc k) d below = zero-at n k d (omega arith)

greater-within : (a b c bound : ℕ) → c ≡ greater a b → a ≤ bound → b ≤ bound → c ≤ bound
greater-within a b c bound is first second = grind (arith, common_steps)

module _ (bound : ℕ) (prior : TimeRow) (within : IsRowWithin bound prior) where
  pub f-within : (f : ℕ) → f ≡ due_f prior (prior.f + 1) → f ≤ bound + 1
  f-within f is = greater-within (prior.f + 1) prior.d f (bound + 1) is (omega arith) (omega arith)

  pub d-within : (ready f d : ℕ) → ready ≤ bound + 1 → f ≡ due_f prior (prior.f + 1) → d ≡ due_d prior ready f → d ≤ bound + 2
  d-within ready f d is_ready f_is is =
      let early = f-within f f_is in
      let both = greater-within prior.e ready (greater prior.e ready) (bound + 2) refl (omega arith) (omega arith) in
      greater-within (f + 1) (greater prior.e ready) d (bound + 2) is (omega arith) both

  pub e-within : (ready f d e : ℕ) → ready ≤ bound + 1 → f ≡ due_f prior (prior.f + 1) → d ≡ due_d prior ready f → e ≡ due_e prior d
      → e ≤ bound + 3
  e-within ready f d e is_ready f_is d_is is =
      let early = d-within ready f d is_ready f_is d_is in
      greater-within (d + 1) prior.m e (bound + 3) is (omega arith) (omega arith)
