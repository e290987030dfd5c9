-- The spellings of values are read as these values, and nothing else is read.
use Rattle.std.proofs.Common.{◌≡◌, ℕ, zero, suc, ◌^◌, ◌<◌, ◌≤◌, Bool, true, false, cond, List, [], ◌∷◌, length, Option, Some, None, Result}
use Rattle.std.proofs.Common.{Ok, Err, refl, sym, ap, subst, ◌∙◌, arith, decimal}
use Rattle.std.specs.Prelude.{IfSome}
use Rattle.std.specs.List.{AllByRecursion}
use Rattle.std.specs.Option.{option_map}
use Rattle.std.specs.Int.{w32, to_be_bytes, from_be_bytes}
use Rattle.std.specs.Str.{bytes_eq}
use Rattle.std.specs.Str.Parse.{AllDigits, digits_value}
use Rattle.std.proofs.lemmas.Slice.Eq.{bytes_eq-Decides}
use Rattle.std.proofs.lemmas.Option.{cond_some}
use Rattle.std.proofs.lemmas.Fmt.{decimal_is_IsNumeral}
use Rattle.std.proofs.lemmas.Str.Parse.{digit_from_value}
use Rattle.std.proofs.lemmas.Bool.{and_from, and_parts, leb-true, le-leb, false_from_ne_true}
use Rattle.std.proofs.lemmas.Nat.{be_bytes_4, from_be_bytes-to_be_bytes_4}
use Rattle.std.proofs.lemmas.Bool.{cond-true}
use Rattle.hex.specs.Hex.{IsBytes, encode_lower, decode_sized, lower_digits}
use Rattle.hex.specs.declared.error.FromHexError.{FromHexError}
use Rattle.hex.proofs.HexLemmas.{decode_of-ok, decode_sized-ok, decode_sized-twice, decode_sized-encode_lower, length-encode_with}
use Rattle.kmp_base.specs.Text.{hex8}
use Rattle.row_reader.specs.Numbers.{if_spelled, number_of, AreBytes, if_bytes, bytes_of, word_of, exactly, dash, or_dash, optional_of}
use Rattle.row_reader.specs.Numbers.{word_or_dash, optional_word_of, number_or_dash, optional_number_of}
use Rattle.row_reader.specs.Fields.{◌>>=◌}
use Rattle.row_reader.proofs.FieldLaws.{IsField, some_is, bind_some}

-- ---- decimal numbers

pub number_found : (limit : ℕ) (text : List ℕ) (n : ℕ) → number_of limit text ≡ Some n → (n ≤ limit) × (text ≡ decimal n)
unfolding number_of
number_found limit text n e =
    let c = cond_some _ (digits_value 10 text) n e in
    let both = and_parts _ _ c.0 in
    (subst (λ k. k ≤ limit) c.1 (leb-true _ _ both.0), (bytes_eq-Decides _ _).0 both.1 ∙ ap decimal c.1)

spelled_again : (limit n k : ℕ) → n ≤ limit → k ≡ n → if_spelled limit (decimal n) k ≡ Some n
spelled_again limit n k le is =
    ap (if_spelled limit (decimal n)) is
    ∙ cond-true _ (Some n) None (and_from _ _ (le-leb n limit le) ((bytes_eq-Decides (decimal n) (decimal n)).1 refl))

pub number_again : (limit n : ℕ) → limit < 2 ^ 64 → n ≤ limit → number_of limit (decimal n) ≡ Some n
unfolding number_of
number_again limit n small le = spelled_again limit n (digits_value 10 (decimal n)) le (decimal_is_IsNumeral n (omega arith)).1

pub number_field : (limit : ℕ) → limit < 2 ^ 64 → IsField (λ n. n ≤ limit) decimal (number_of limit)
number_field limit small = record {
  found = number_found limit;
  again = λ n le. number_again limit n small le;
}

-- ---- bytes

-- between each element and all by recursion
pub each_byte : (bytes : List ℕ) → AllByRecursion (λ b. b < 256) bytes → IsBytes bytes
each_byte [] h i = omega arith
each_byte (b ∷ bytes) h zero = h.0
each_byte (b ∷ bytes) h (suc i) = each_byte bytes h.1 i

all_bytes : (bytes : List ℕ) → IsBytes bytes → AllByRecursion (λ b. b < 256) bytes
all_bytes [] h = tt
all_bytes (b ∷ bytes) h = (h 0, all_bytes bytes (λ i. h (suc i)))

decoded_are : (size : ℕ) (text bytes : List ℕ) → decode_sized text size ≡ Ok bytes → AreBytes size bytes
decoded_are size text bytes e =
    let long = decode_sized-ok text size bytes e in
    let f = decode_of-ok text bytes (sym (decode_sized-twice text size long) ∙ e) in
    (omega (arith, f.2), all_bytes bytes f.3)

if_bytes_found : (size : ℕ) (text : List ℕ) (r : Result (List ℕ) FromHexError) (bytes : List ℕ) → decode_sized text size ≡ r
    → if_bytes text r ≡ Some bytes
    → AreBytes size bytes × (text ≡ encode_lower bytes)
if_bytes_found size text (Ok guess) bytes is e =
    let c = cond_some _ guess bytes e in
    (subst (AreBytes size) c.1 (decoded_are size text guess is), (bytes_eq-Decides _ _).0 c.0 ∙ ap encode_lower c.1)
if_bytes_found size text (Err fault) bytes is e = absurd cc

pub bytes_found : (size : ℕ) (text bytes : List ℕ) → bytes_of size text ≡ Some bytes → AreBytes size bytes × (text ≡ encode_lower bytes)
unfolding bytes_of
bytes_found size text bytes e = if_bytes_found size text (decode_sized text size) bytes refl e

pub bytes_again : (size : ℕ) (bytes : List ℕ) → AreBytes size bytes → bytes_of size (encode_lower bytes) ≡ Some bytes
unfolding bytes_of
bytes_again size bytes are =
    ap (if_bytes (encode_lower bytes)) (decode_sized-encode_lower bytes size are.0 (each_byte bytes are.1))
    ∙ cond-true _ (Some bytes) None ((bytes_eq-Decides (encode_lower bytes) (encode_lower bytes)).1 refl)

pub bytes_field : (size : ℕ) → IsField (AreBytes size) encode_lower (bytes_of size)
bytes_field size = record { found = bytes_found size; again = bytes_again size }

-- ---- words

abbrev pub IsWord : ℕ → Type 0
IsWord n = n < 2 ^ 32

word_is_four : (bytes : List ℕ) → AreBytes 4 bytes → IsWord (from_be_bytes w32 bytes)
word_is_four bytes are =
    let each = each_byte bytes are.1 in
    let b0 = each 0 in
    let b1 = each 1 in
    let b2 = each 2 in
    let b3 = each 3 in
    omega (arith, b0, b1, b2, b3)

word_found' : (text : List ℕ) (o : Option (List ℕ)) (n : ℕ) → bytes_of 4 text ≡ o → option_map (from_be_bytes w32) o ≡ Some n → IsWord n
    × (text ≡ hex8 n)
word_found' text (Some bytes) n is e =
    let f = bytes_found 4 text bytes is in
    let value = some_is (from_be_bytes w32 bytes) n e in (
      subst IsWord value (word_is_four bytes f.0),
      f.1
          ∙ ap encode_lower (sym (be_bytes_4 bytes n f.0.0 (each_byte bytes f.0.1) (sym value))),
    )
word_found' text None n is e = absurd cc

pub word_found : (text : List ℕ) (n : ℕ) → word_of text ≡ Some n → IsWord n × (text ≡ hex8 n)
unfolding word_of
word_found text n e = word_found' text (bytes_of 4 text) n refl e

pub word_bytes : (n : ℕ) → AreBytes 4 (to_be_bytes w32 n)
word_bytes n = (refl, (omega arith, (omega arith, (omega arith, (omega arith, tt)))))

pub word_again : (n : ℕ) → IsWord n → word_of (hex8 n) ≡ Some n
unfolding word_of
word_again n small =
    ap (option_map (from_be_bytes w32)) (bytes_again 4 (to_be_bytes w32 n) (word_bytes n))
    ∙ ap (λ x. Some x) (from_be_bytes-to_be_bytes_4 n small)

pub word_field : IsField (λ n. n < 2 ^ 32) hex8 word_of
word_field = record { found = word_found; again = word_again }

-- ---- a value or none

module _ {X : Type 0} (Fits : X → Type 0) (spell : X → List ℕ) (one : List ℕ → Option X) (law : IsField Fits spell one) where
  abbrev optional_chosen : Bool → Option X → Option (Option X)
  optional_chosen b o = cond b (Some None) (option_map (λ x. Some x) o)

  abbrev IsOptional : List ℕ → Option X → Type 0
  IsOptional text x = IfSome x Fits × (text ≡ or_dash spell x)

  some_found : (text : List ℕ) (o : Option X) (x : Option X) → one text ≡ o → option_map (λ y. Some y) o ≡ Some x → IsOptional text x
  some_found text (Some y) x is e = subst (IsOptional text) (some_is (Some y) x e) (law.found text y is)
  some_found text None x is e = absurd cc

  optional_found : (text : List ℕ) (b : Bool) (x : Option X) → bytes_eq text dash ≡ b → optional_chosen b (one text) ≡ Some x
      → IsOptional text x
  optional_found text true x is e = subst (IsOptional text) (some_is None x e) (tt, (bytes_eq-Decides text dash).0 is)
  optional_found text false x is e = some_found text (one text) x refl e

  optional_again : ((x : X) → Fits x → bytes_eq (spell x) dash ≡ false) → (x : Option X) → IfSome x Fits
      → optional_of one (or_dash spell x) ≡ Some x
  optional_again apart None fits = refl
  optional_again apart (Some x) fits =
      ap (λ b. optional_chosen b (one (spell x))) (apart x fits) ∙ ap (option_map (λ y. Some y)) (law.again x fits)

  -- a field, or `-` where it spells no value so
  optional_field_of : ((x : X) → Fits x → bytes_eq (spell x) dash ≡ false) → IsField (λ x. IfSome x Fits) (or_dash spell) (optional_of one)
  optional_field_of apart = record {
    found = λ text x e. optional_found text (bytes_eq text dash) x refl e;
    again = optional_again apart;
  }

-- the text of a word isn't a dash
word_not_dash : (n : ℕ) → bytes_eq (hex8 n) dash ≡ false
word_not_dash n = false_from_ne_true _ (λ e.
    let long : length (hex8 n) ≡ 8 = length-encode_with lower_digits (to_be_bytes w32 n) in
    let short : length (hex8 n) ≡ 1 = ap length ((bytes_eq-Decides (hex8 n) dash).0 e) in
    absurd (omega arith))

pub optional_field : IsField (λ x. IfSome x IsWord) word_or_dash optional_word_of
unfolding optional_word_of
optional_field = optional_field_of IsWord hex8 word_of word_field (λ n fits. word_not_dash n)

-- that of a number begins with a digit
number_not_dash : (n : ℕ) → n < 2 ^ 64 → bytes_eq (decimal n) dash ≡ false
number_not_dash n small = false_from_ne_true _ (λ e.
    let all : AllDigits 10 dash = subst (AllDigits 10) ((bytes_eq-Decides (decimal n) dash).0 e) (decimal_is_IsNumeral n small).0.1 in
    let digit = digit_from_value 45 all.0 in
    absurd (omega arith))

pub optional_number_field : (limit : ℕ) → limit < 2 ^ 64
    → IsField (λ x. IfSome x (λ n. n ≤ limit)) number_or_dash (optional_number_of limit)
unfolding optional_number_of
optional_number_field limit small =
    optional_field_of (λ n. n ≤ limit) decimal (number_of limit) (number_field limit small) (λ n fits. number_not_dash n (omega arith))

-- ---- one text

pub exactly_found : (name text : List ℕ) (x : Unit {0}) → exactly name text ≡ Some x → Unit {0} × (text ≡ name)
unfolding exactly
exactly_found name text x e = (tt, (bytes_eq-Decides text name).0 (cond_some _ tt x e).0)

pub exactly_again : (name : List ℕ) → exactly name name ≡ Some tt
unfolding exactly
exactly_again name = cond-true _ (Some tt) None ((bytes_eq-Decides name name).1 refl)

pub exactly_field : (name : List ℕ) → IsField (λ (x : Unit {0}). Unit {0}) (λ x. name) (exactly name)
exactly_field name = record { found = exactly_found name; again = λ x fits. exactly_again name }

-- ---- a value that passes a test

pub tested_field : {X : Type 0} (Fits : X → Type 0) (spell : X → List ℕ) (one : List ℕ → Option X) (test : X → Bool)
    → IsField Fits spell one → IsField (λ x. Fits x × (test x ≡ true)) spell (λ text. one text >>= λ x. cond (test x) (Some x) None)
tested_field Fits spell one test law = record {
  found = λ text x e.
      let b = bind_some (one text) (λ y. cond (test y) (Some y) None) x e in
      let c = cond_some (test b.0) b.0 x b.2 in
      let f = law.found text b.0 b.1 in
      ((subst Fits c.1 f.0, ap test (sym c.1) ∙ c.0), f.1 ∙ ap spell c.1);
  again = λ x h. ap (λ o. o >>= λ y. cond (test y) (Some y) None) (law.again x h.0) ∙ cond-true (test x) (Some x) None h.1;
}
