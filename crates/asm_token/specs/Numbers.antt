-- Numbers as they are written.
use Rattle.std.specs.Prelude.{ℕ, ◌-◌, ◌%◌, ◌^◌, if◌then◌else◌}
use Rattle.asm_token.specs.declared.number.Number.{Number}

-- The word of a number: a negative one is meant modulo 2 ^ 32.
abbrev pub word_of : Number → ℕ
word_of n = if n.negative then (2 ^ 32 - n.magnitude) % 2 ^ 32 else n.magnitude
