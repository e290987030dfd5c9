-- How many caches other than the master pass a test.
use Rattle.std.proofs.Common.{◌≡◌, ◌≢◌, ℕ, zero, suc, ◌+◌, ◌^◌, ◌<◌, ◌≤◌, inl, inr, Bool, true, false, refl, ap, sym, arith, subst}
use Rattle.std.specs.Prelude.{not, ◌==◌, ◌&&◌, if◌then◌else◌}
use Rattle.std.proofs.Math.Nat.{two-pow-succ}
use Rattle.std.proofs.lemmas.Bool.{cases_eq, cases_Bool, eq-eqb, ne_eqb}
use Rattle.access_log.specs.declared.Letter.{Letter}
use Rattle.access_log.specs.declared.Letter.TheVariants as letters
use Rattle.moesi_master.specs.Moesi.{is_held}
use Rattle.moesi_slave.specs.declared.SlavePhase.{SlavePhase}
use Rattle.moesi_slave.specs.Slave.{is_fresh}
use Rattle.coherence.specs.Bus.{count_others, seen_by}

module _ (test : SlavePhase → Bool) where
  pub count-same : (old new : ℕ → SlavePhase) (m n : ℕ) → ((j : ℕ) → j < n → test (new j) ≡ test (old j))
      → count_others test new m n ≡ count_others test old m n
  count-same old new m zero same = refl
  count-same old new m (suc n) same =
      let a = count-same old new m n (λ j lt. same j (omega arith)) in
      let b = ap {B = ℕ} (λ x. if not (n == m) && x then 1 else 0) (same n (omega arith)) in
      omega (arith, a, b)

  -- One passes it no more.
  pub count-next : (old new : ℕ → SlavePhase) (m n k : ℕ) → k < n → k ≢ m → test (old k) ≡ true → test (new k) ≡ false
      → ((j : ℕ) → j ≢ k → new j ≡ old j) → count_others test new m n + 1 ≡ count_others test old m n
  count-next old new m zero k lt ne was is same = absurd (omega arith)
  count-next old new m (suc n) k lt ne was is same =
      elim (cases_eq k n) as (λ _. count_others test new m (suc n) + 1 ≡ count_others test old m (suc n)) [
        | inl e ↦
            (let P : ℕ → Type 0 = λ z. count_others test new m (suc z) + 1 ≡ count_others test old m (suc z) in
            let a = count-same old new m k (λ j lt. ap test (same j (omega arith))) in
            subst P e (rw (ne_eqb k m ne, was, is) (omega (arith, a))))
        | inr o ↦
            (let a = count-next old new m n k (omega arith) ne was is same in
            let b = ap {B = ℕ} (λ x. if not (n == m) && test x then 1 else 0) (same n (λ q. o (sym q))) in
            omega (arith, a, b))
      ]

  -- One that passes it counts.
  pub count-some : (x : ℕ → SlavePhase) (m n k : ℕ) → k < n → k ≢ m → test (x k) ≡ true → 1 ≤ count_others test x m n
  count-some x m zero k lt ne passes = absurd (omega arith)
  count-some x m (suc n) k lt ne passes = elim (cases_eq k n) as (λ _. 1 ≤ count_others test x m (suc n)) [
    | inl e ↦ (let P : ℕ → Type 0 = λ z. 1 ≤ count_others test x m (suc z) in subst P e (rw (ne_eqb k m ne, passes) (omega arith)))
    | inr o ↦ (let a = count-some x m n k (omega arith) ne passes in omega (arith, a))
  ]

  -- Where none passes it, each fails.
  pub count-none : (x : ℕ → SlavePhase) (m n k : ℕ) → count_others test x m n ≡ 0 → k < n → k ≢ m → test (x k) ≡ false
  count-none x m n k none lt ne = elim (cases_Bool (test (x k))) as (λ _. test (x k) ≡ false) [
    | inl passes ↦ (let some = count-some x m n k lt ne passes in absurd (omega (arith, none, some)))
    | inr fails ↦ fails
  ]

  one : (b : Bool) → (let i : ℕ = 1 in let o : ℕ = 0 in (if b then i else o) ≤ 1)
  one true = omega arith
  one false = omega arith

  count-below : (x : ℕ → SlavePhase) (m n : ℕ) → count_others test x m n ≤ n
  count-below x m zero = omega arith
  count-below x m (suc n) =
      let a = count-below x m n in
      let b = one (not (n == m) && test (x n)) in
      omega (arith, a, b)

  -- The master is none of them.
  pub count-others : (x : ℕ → SlavePhase) (m n : ℕ) → m < n → count_others test x m n + 1 ≤ n
  count-others x m zero lt = absurd (omega arith)
  count-others x m (suc n) lt = elim (cases_eq n m) as (λ _. count_others test x m (suc n) + 1 ≤ suc n) [
    | inl e ↦
        (let a = count-below x m n in
        let b : count_others test x m (suc n) ≡ count_others test x m n = rw (eq-eqb n m e) (omega arith) in
        omega (arith, a, b))
    | inr ne ↦
        (let a = count-others x m n (omega arith) in
        let b = one (not (n == m) && test (x n)) in
        omega (arith, a, b))
  ]

-- There is another cache than the master.
pub some-other : (m n : ℕ) → 2 ≤ n → (k : ℕ) × ((k ≢ m) × (k < n))
some-other zero n le = (1, ((λ e. omega arith), omega arith))
some-other (suc m) n le = (0, ((λ e. omega arith), omega arith))

-- The bits of the caches that were seen.
pub seen-below : (f : ℕ → ℕ → Letter) (x : ℕ → SlavePhase) (m line n : ℕ) → seen_by f x m line n < 2 ^ n
seen-below f x m line zero = omega arith
seen-below f x m line (suc n) =
    below-next (not (n == m) && (not (is_fresh (x n)) && is_held (f n line))) (seen_by f x m line n) n (seen-below f x m line n)
  where
    below-next : (b : Bool) (y n : ℕ) → y < 2 ^ n → y + (if b then 2 ^ n else 0) < 2 ^ suc n
    below-next true y n lt = let e = two-pow-succ n in omega (arith, e)
    below-next false y n lt = let e = two-pow-succ n in omega (arith, e)

-- They are less than if all held the line.
pub seen-mono : (f : ℕ → ℕ → Letter) (x : ℕ → SlavePhase) (m line n : ℕ) → seen_by f x m line n ≤ seen_by (λ c l. letters.M) x m line n
seen-mono f x m line zero = omega arith
seen-mono f x m line (suc n) =
    let a = seen-mono f x m line n in
    let b = by (not (n == m)) (not (is_fresh (x n))) (is_held (f n line)) in
    omega (arith, a, b)
  where
    by : (p q r : Bool) → (if p && (q && r) then 2 ^ n else 0) ≤ (if p && (q && true) then 2 ^ n else 0)
    by false q r = omega arith
    by true false r = omega arith
    by true true true = omega arith
    by true true false = omega arith
