-- Numbers as they are spelled in rows.
use Rattle.std.specs.Prelude.{◌≡◌, ◌<◌, ℕ, List, length, get_or}
use Rattle.std.specs.Int.{w16, w32, to_be_bytes}
use Rattle.hex.specs.Hex.{encode_lower}

-- eight lower-case hexadecimal digits
abbrev pub hex8 : ℕ → List ℕ
hex8 n = encode_lower (to_be_bytes w32 n)

-- four lower-case hexadecimal digits
abbrev pub hex4 : ℕ → List ℕ
hex4 n = encode_lower (to_be_bytes w16 n)

-- No text of a number is empty, and none but that of 0 begins with a zero.
abbrev pub IsPlain : List ℕ → Type 0
IsPlain text = (0 < length text) × (get_or text 0 0 ≡ 48 → length text ≡ 1)
