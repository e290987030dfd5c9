-- What an access does to the word of its address, which is a multiple of four.
use Rattle.std.specs.Prelude.{ℕ, Bool, true, false}
use Rattle.mips_isa.specs.declared.Kind.{Kind}
use Rattle.mips_isa.specs.declared.Kind.TheVariants.{Fetch, Lw, Sw, Cas}

-- How many bytes it touches, which is also what its address has to be a multiple of.
abbrev pub width : Kind → ℕ
width Fetch = 4
width Lw = 4
width Sw = 4
width Cas = 4

-- Whether it writes the old part of memory into a register.
abbrev pub loads : Kind → Bool
loads Fetch = false
loads Lw = true
loads Sw = false
loads Cas = true

-- Whether it may write memory; a compare and swap counts whether or not it stores.
abbrev pub stores : Kind → Bool
stores Fetch = false
stores Lw = false
stores Sw = true
stores Cas = true

-- The part of the word at an address that it touches: the whole word.
unfoldable pub part : Kind → ℕ → ℕ → ℕ
part kind addr word = word

-- The word with that part replaced by a value.
unfoldable pub with_part : Kind → ℕ → ℕ → ℕ → ℕ
with_part kind addr word value = value

-- What a register receives where the part of memory was `old`.
unfoldable pub loaded : Kind → ℕ → ℕ
loaded kind old = old
