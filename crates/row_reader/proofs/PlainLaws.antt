-- Which parts are plain: a literal by a test, and the spellings of values.
use Rattle.std.proofs.Common.{◌≡◌, ℕ, zero, suc, ◌/◌, ◌%◌, ◌^◌, ◌<◌, Bool, true, false, ◌&&◌, List, [], ◌∷◌, Option, Some, None}
use Rattle.std.proofs.Common.{get_or, refl, arith, decimal}
use Rattle.std.specs.Prelude.{not, IfSome}
use Rattle.std.specs.Int.{w32, to_be_bytes}
use Rattle.std.specs.Str.Parse.{AllDigits}
use Rattle.std.proofs.lemmas.Bool.{and_parts, ne_eqb, not-true}
use Rattle.std.proofs.lemmas.Fmt.{decimal_is_IsNumeral}
use Rattle.std.proofs.lemmas.Str.Parse.{digit_from_value}
use Rattle.hex.specs.Hex.{encode_with, encode_lower, lower_digits}
use Rattle.kmp_base.specs.Text.{hex8}
use Rattle.row_reader.specs.Rows.{is_feed, is_blank, IsPlain}
use Rattle.row_reader.specs.Numbers.{dash, word_or_dash, number_or_dash}

-- ---- literals

abbrev pub passes : List ℕ → Bool
passes [] = true
passes (b ∷ bs) = not (is_feed b) && (not (is_blank b) && passes bs)

-- a literal is plain by its test
pub plain_by_test : (part : List ℕ) → passes part ≡ true → IsPlain part
plain_by_test [] e = tt
plain_by_test (b ∷ bs) e =
    let p = and_parts (not (is_feed b)) _ e in
    let q = and_parts (not (is_blank b)) (passes bs) p.1 in
    ((not-true _ p.0, not-true _ q.0), plain_by_test bs q.1)

-- ---- numbers

digits_plain : (ds : List ℕ) → AllDigits 10 ds → IsPlain ds
digits_plain [] h = tt
digits_plain (d ∷ ds) h =
    let r = digit_from_value d h.0 in
    ((ne_eqb d 10 (λ e. omega arith), ne_eqb d 32 (λ e. omega arith)), digits_plain ds h.1)

pub decimal_plain : (n : ℕ) → n < 2 ^ 64 → IsPlain (decimal n)
decimal_plain n small = digits_plain (decimal n) (decimal_is_IsNumeral n small).0.1

-- ---- bytes and words

plain_at : (part : List ℕ) → IsPlain part → (k : ℕ) → (is_feed (get_or part k 0) ≡ false) × (is_blank (get_or part k 0) ≡ false)
plain_at [] h k = (refl, refl)
plain_at (b ∷ bs) h zero = h.0
plain_at (b ∷ bs) h (suc k) = plain_at bs h.1 k

encoded_plain : (digits : List ℕ) → IsPlain digits → (bytes : List ℕ) → IsPlain (encode_with digits bytes)
unfolding encode_with
encoded_plain digits h [] = tt
encoded_plain digits h (b ∷ bytes) = (plain_at digits h (b / 16), (plain_at digits h (b % 16), encoded_plain digits h bytes))

pub bytes_plain : (bytes : List ℕ) → IsPlain (encode_lower bytes)
bytes_plain bytes = encoded_plain lower_digits (plain_by_test lower_digits refl) bytes

pub hex8_plain : (n : ℕ) → IsPlain (hex8 n)
hex8_plain n = bytes_plain (to_be_bytes w32 n)

pub word_or_dash_plain : (x : Option ℕ) → IsPlain (word_or_dash x)
word_or_dash_plain None = plain_by_test dash refl
word_or_dash_plain (Some n) = hex8_plain n

pub number_or_dash_plain : (x : Option ℕ) → IfSome x (λ n. n < 2 ^ 64) → IsPlain (number_or_dash x)
number_or_dash_plain None small = plain_by_test dash refl
number_or_dash_plain (Some n) small = decimal_plain n small
