-- Numbers as digits, one number after another, and how many digits a number has.
use Rattle.std.proofs.Common.{◌≡◌, ℕ, ◌+◌, ◌^◌, ◌<◌, ◌≤◌, List, [], ◌∷◌, ◌++◌, length, take, drop, decimal, refl, ◌∙◌, ap, take-add, arith}
use Rattle.std.specs.List.{flat_map}
use Rattle.std.specs.Int.{w32, to_le_bytes}
use Rattle.std.proofs.lemmas.Fmt.{length-decimal-le}
use Rattle.std.proofs.lemmas.List.Concat.{flat_map-append}
use Rattle.hex.specs.Hex.{encode_with, encode_lower}

encode_lower-append : (a b : List ℕ) → encode_lower (a ++ b) ≡ encode_lower a ++ encode_lower b
unfolding encode_with
encode_lower-append [] b = refl
encode_lower-append (x ∷ a) b = ap (λ t. encode_lower (x ∷ []) ++ t) (encode_lower-append a b)

-- the digits of one more number, where one is left
pub digits_more : (i : ℕ) (numbers : List ℕ)
    → encode_lower (flat_map (to_le_bytes w32) (take (i + 1) numbers)) ≡ encode_lower (flat_map (to_le_bytes w32) (take i numbers))
    ++ encode_lower (flat_map (to_le_bytes w32) (take 1 (drop i numbers)))
digits_more i numbers =
    ap (λ t. encode_lower (flat_map (to_le_bytes w32) t)) (take-add i 1 numbers)
    ∙ ap encode_lower (flat_map-append (to_le_bytes w32) (take i numbers) (take 1 (drop i numbers)))
    ∙ encode_lower-append (flat_map (to_le_bytes w32) (take i numbers)) (flat_map (to_le_bytes w32) (take 1 (drop i numbers)))

-- a number of 32 bits has at most ten digits
pub short_fits : (n : ℕ) → n < 2 ^ 32 → length (decimal n) ≤ 10
short_fits n small = length-decimal-le 10 n (omega arith) (omega arith) (omega arith)
