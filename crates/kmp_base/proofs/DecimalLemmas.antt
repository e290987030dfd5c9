-- The decimal spelling of a number, digit by digit.
use Rattle.std.proofs.Common.{◌≡◌, ◌↔◌, Bool, true, false, IsTrue, ℕ, zero, suc, ◌+◌, ◌*◌, ◌<◌, ◌≤◌, ◌^◌, ◌∙◌, List, take, length, get_or}
use Rattle.std.proofs.Common.{Option, Some, None, refl, sym, ap, arith}
use Rattle.std.specs.Prelude.{decimal, MatchOption, IfSome}
use Rattle.std.specs.Char.{digit_value}
use Rattle.std.specs.Str.Parse.{AllDigits, digits_value}
use Rattle.std.proofs.lemmas.Str.{digit_value_digit}
use Rattle.std.proofs.lemmas.Fmt.{decimal_digit, decimal_nonempty, first_decimal, decimal_is_IsNumeral, decimal-digits_value}
use Rattle.std.proofs.lemmas.Int.Digits.{digits_more, digits_value_more}
use Rattle.std.proofs.lemmas.Str.Parse.{IsNumeralModel, digit_at, digits_value-take-le}
use Rattle.kmp_base.specs.Text.{IsPlain}

lone_zero : (n : ℕ) → n < 2 ^ 64 → get_or (decimal n) 0 0 ≡ 48 → length (decimal n) ≡ 1
lone_zero zero fits lead = ap (λ (text : List ℕ). length text) (decimal_digit 0 (omega arith))
lone_zero (suc n) fits lead = absurd (omega (arith, lead, first_decimal (suc n) (omega arith) fits))

pub decimal-plain : (n : ℕ) → n < 2 ^ 64 → IsPlain (decimal n)
decimal-plain n fits = (decimal_nonempty n fits, lone_zero n fits)

-- ---- a digit more

-- A number with a digit behind it, where there is one.
abbrev pub HasDigit : ℕ → ℕ → Option ℕ → Type 0
HasDigit number digit more = MatchOption more (digit_value digit < 10 → 2 ^ 64 ≤ number * 10 + digit_value digit)
    (λ more. (digit_value digit < 10) × (more ≡ number * 10 + digit_value digit))

pub digits_go_on : (text : List ℕ) (index number more : ℕ) → index < length text → AllDigits 10 (take index text)
    → number ≡ digits_value 10 (take index text) → HasDigit number (get_or text index 0) (Some more)
    → AllDigits 10 (take (index + 1) text) × (more ≡ digits_value 10 (take (index + 1) text))
digits_go_on text index number more below digits is has = (
  digits_more 10 text index below digits has.0,
  omega (arith, has.1, is, digits_value_more 10 text index below),
)

-- Where there is none, the whole text has no number, if it is digits.
pub digits_end : (text : List ℕ) (index number : ℕ) → index < length text → number ≡ digits_value 10 (take index text)
    → HasDigit number (get_or text index 0) None → AllDigits 10 text → 2 ^ 64 ≤ digits_value 10 text
digits_end text index number below is has digits =
    let digit = digit_at text index digits below in
    let small : digit_value (get_or text index 0) < 10 =
    omega (arith, digit_value_digit (get_or text index 0) digit, digit) in
    omega (arith, has small, is, digits_value_more 10 text index below, digits_value-take-le 10 text (index + 1) (omega arith))

-- ---- all digits

-- The number that a text writes in digits, where it has 64 bits.
abbrev pub HasDigits : List ℕ → Option ℕ → Type 0
HasDigits text number = MatchOption number (AllDigits 10 text → 2 ^ 64 ≤ digits_value 10 text)
    (λ n. AllDigits 10 text × (n ≡ digits_value 10 text))

-- The number whose spelling a text is.
abbrev pub IsSpelled : List ℕ → Option ℕ → Type 0
IsSpelled text number = MatchOption number ((n : ℕ) → n < 2 ^ 64 → text ≡ decimal n → ⊥) (λ n. text ≡ decimal n)

digits_are : IsNumeralModel (AllDigits 10) (digits_value 10)
digits_are = record { to = λ ds digits. digits; from = λ ds digits. digits; same = λ ds digits. refl }

pub spelled : (text : List ℕ) (number : Option ℕ) → IsPlain text → IfSome number (λ n. n < 2 ^ 64) → HasDigits text number
    → IsSpelled text number
spelled text None plain fits has = λ n small is.
    let read = decimal_is_IsNumeral n small in
    absurd (omega (arith, small, read.1, rw is at has read.0.1))
spelled text (Some n) plain fits has =
    let small : digits_value 10 text < 2 ^ 64 = omega (arith, has.1, fits) in
    sym (ap decimal has.1 ∙ decimal-digits_value digits_are text has.0 plain.0 plain.1 small)

-- A text that isn't plain spells no number.
pub unspelled : (test : Bool) (text : List ℕ) → IsTrue test ↔ IsPlain text → test ≡ false → (n : ℕ) → n < 2 ^ 64 → text ≡ decimal n → ⊥
unspelled true text tells none n small is = absurd cc
unspelled false text tells none n small is = absurd (let plain = tells.1 (rw is (decimal-plain n small)) in cc)
