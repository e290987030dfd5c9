-- Numbers only grow by their digits.
use Rattle.std.proofs.Common.{◌≡◌, ℕ, suc, length, drop, get_or, ◌+◌, ◌*◌, ◌<◌, ◌≤◌, ◌^◌, List, [], ◌∷◌, arith, subst}
use Rattle.std.proofs.Math.Nat.{mul-le-mul_left}
use Rattle.std.proofs.Math.Seq.{drop-cons}
use Rattle.std.specs.Char.{digit_value}
use Rattle.std.specs.Str.Parse.{digits_value_after}

grows : (radix high : ℕ) (ds : List ℕ) → 0 < radix → high ≤ digits_value_after radix high ds
grows radix high [] positive = omega arith
grows radix high (d ∷ ds) positive =
    let more = grows radix (high * radix + digit_value d) ds positive in
    let one : 1 ≤ radix = omega arith in
    let product = mul-le-mul_left high one in
    omega (arith, more, product)

-- Where the whole number fits, so does each front of its digits.
pub front_fits : (radix high i : ℕ) (s : List ℕ) (total : ℕ) → 0 < radix → i < length s → digits_value_after radix high (drop i s) ≡ total
    → total < 2 ^ 32
    → high * radix + digit_value (get_or s i 0) < 2 ^ 32
front_fits radix high i s total positive lt e fits =
    let cells = drop-cons s i 0 in
    let e' : digits_value_after radix (high * radix + digit_value (get_or s i 0)) (drop (suc i) s) ≡ total =
    subst (λ (ds : List ℕ). digits_value_after radix high ds ≡ total) (cells lt) e in
    omega (arith, grows radix (high * radix + digit_value (get_or s i 0)) (drop (suc i) s) positive)
