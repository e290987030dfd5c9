-- Numbers in a row.
use Rattle.std.proofs.Common.{◌≡◌, ℕ, zero, suc, ◌+◌, ◌-◌, ◌<◌, ◌≤◌, inl, inr, Bool, true, false, cond, List, [], ◌∷◌, ◌++◌, refl, ap, sym}
use Rattle.std.proofs.Common.{◌∙◌, subst, arith}
use Rattle.std.specs.List.{filter, range_with_len}
use Rattle.std.proofs.lemmas.Bool.{cases_lt}

pub range_with_len-more : (i n : ℕ) → i < n → range_with_len i (n - i) ≡ i ∷ range_with_len (i + 1) (n - (i + 1))
range_with_len-more i n lt =
    let more : n - i ≡ suc (n - (i + 1)) = omega arith in
    ap (range_with_len i) more

-- in two parts
pub range_with_len-append : (a n m k b : ℕ) → n + m ≡ k → a + n ≡ b → range_with_len a k ≡ range_with_len a n ++ range_with_len b m
range_with_len-append a zero m k b all from =
    let e : k ≡ m = omega arith in
    let f : b ≡ a = omega arith in
    rw (e, f) refl
range_with_len-append a (suc n) m zero b all from = absurd (omega arith)
range_with_len-append a (suc n) m (suc k) b all from = ap (λ t. a ∷ t) (range_with_len-append (a + 1) n m k b (omega arith) (omega arith))

-- two tests that agree there pass the same numbers
pub filter-range_with_len_same : (p q : ℕ → Bool) (a n : ℕ) → ((k : ℕ) → a ≤ k → k < a + n → p k ≡ q k)
    → filter p (range_with_len a n) ≡ filter q (range_with_len a n)
filter-range_with_len_same p q a zero h = refl
filter-range_with_len_same p q a (suc n) h =
    ap (λ b. cond b (a ∷ filter p (range_with_len (a + 1) n)) (filter p (range_with_len (a + 1) n))) (h a (omega arith) (omega arith))
    ∙ ap (λ t. cond (q a) (a ∷ t) t) (filter-range_with_len_same p q (a + 1) n (λ k low high. h k (omega arith) (omega arith)))

cond_cons_none : (b : Bool) (x : ℕ) (xs : List ℕ) → cond b (x ∷ xs) xs ≡ [] → (b ≡ false) × (xs ≡ [])
cond_cons_none true x xs h = cc
cond_cons_none false x xs h = (refl, h)

-- where none passes, each fails
pub false_from_filter-range_with_len : (p : ℕ → Bool) (a n k : ℕ) → filter p (range_with_len a n) ≡ [] → a ≤ k → k < a + n → p k ≡ false
false_from_filter-range_with_len p a zero k none low high = absurd (omega arith)
false_from_filter-range_with_len p a (suc n) k none low high =
    let parts = cond_cons_none (p a) a (filter p (range_with_len (a + 1) n)) none in
    elim (cases_lt a k) as (λ _. p k ≡ false) [
      | inl lt ↦ false_from_filter-range_with_len p (a + 1) n k parts.1 (omega arith) (omega arith)
      | inr le ↦ (let same : k ≡ a = omega arith in subst (λ (i : ℕ). p i ≡ false) (sym same) parts.0)
    ]
