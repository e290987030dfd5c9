-- Multiples of a number, and how long a number is in decimal.
use Rattle.std.proofs.Common.{◌≡◌, ℕ, ◌+◌, ◌-◌, ◌*◌, ◌^◌, ◌<◌, ◌≤◌, length, decimal, bit_or, arith}
use Rattle.std.proofs.lemmas.Fmt.{length-decimal-le}
use Rattle.std.proofs.lemmas.Nat.{or_shifted}

pub or_multiple : (a b m k : ℕ) → a ≡ m * 2 ^ k → b < 2 ^ k → bit_or a b ≡ a + b
or_multiple a b m k e below = rw e (or_shifted m k b below)

pub multiple_sub_one : (n m q : ℕ) → n ≡ (m + 1) * q → n - q ≡ m * q
multiple_sub_one n m q e = omega arith

-- a number of 64 bits has at most 20 digits
pub length_decimal_64 : (n : ℕ) → n < 2 ^ 64 → length (decimal n) ≤ 20
length_decimal_64 n fits = length-decimal-le 20 n (omega arith) (omega arith) fits
