-- How a core's moved steps add up.
use Rattle.std.proofs.Common.{◌≡◌, ℕ, ◌+◌, arith}

pub moved-none : (n : ℕ) → n ≡ n + 0
moved-none n = omega arith

pub moved-twice : (before between after j k : ℕ) → between ≡ before + j → after ≡ between + k → after ≡ before + (j + k)
moved-twice before between after j k p q = omega arith
