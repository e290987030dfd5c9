-- Which texts spell no word in hexadecimal.
use Rattle.std.proofs.Common.{◌≡◌, ◌≢◌, ℕ, zero, suc, ◌^◌, ◌<◌, List, refl, sym, ap, ◌∙◌, arith}
use Rattle.std.specs.Result.{is_err}
use Rattle.std.specs.Prelude.{true, Result, Ok, Err, MatchResult}
use Rattle.std.specs.Int.{w32, to_be_bytes, from_be_bytes}
use Rattle.std.proofs.lemmas.Nat.{from_be_bytes-to_be_bytes_4}
use Rattle.hex.specs.Hex.{decode_sized, IsBytes}
use Rattle.hex.specs.declared.error.FromHexError.{FromHexError}
use Rattle.hex.proofs.HexLemmas.{decode_sized-encode_lower}
use Rattle.kmp_base.specs.Text.{hex8}

-- The four bytes of a word, and their digits.

word_bytes : (n : ℕ) → IsBytes (to_be_bytes w32 n)
word_bytes n zero = omega arith
word_bytes n (suc zero) = omega arith
word_bytes n (suc (suc zero)) = omega arith
word_bytes n (suc (suc (suc zero))) = omega arith
word_bytes n (suc (suc (suc (suc i)))) = omega arith

decoded : (text : List ℕ) (n : ℕ) → text ≡ hex8 n → decode_sized text 4 ≡ Ok (to_be_bytes w32 n)
decoded text n is = rw is (decode_sized-encode_lower (to_be_bytes w32 n) 4 refl (word_bytes n))

-- what is no text of digits spells no word
pub no_hex8 : (text out : List ℕ) (result : Result (Unit {0}) FromHexError)
    → MatchResult (decode_sized text 4) (λ bytes. (result ≡ Ok tt) × (out ≡ bytes)) (λ e. result ≡ Err e) → is_err result ≡ true → (n : ℕ)
    → n < 2 ^ 32 → text ≡ hex8 n → ⊥
no_hex8 text out result value failed n small is =
    let both = rw (decoded text n is) at value in
    let fine = ap is_err both.0 in cc

-- what isn't the spelling of the word of its bytes spells no word
pub no_other_hex8 : (text bytes : List ℕ) (result : Result (Unit {0}) FromHexError) (word : ℕ)
    → MatchResult (decode_sized text 4) (λ out. (result ≡ Ok tt) × (bytes ≡ out)) (λ e. result ≡ Err e) → word ≡ from_be_bytes w32 bytes
    → text ≢ hex8 word → (n : ℕ) → n < 2 ^ 32 → text ≡ hex8 n → ⊥
no_other_hex8 text bytes result word value read other n small is =
    let both = rw (decoded text n is) at value in
    let same = read ∙ ap (from_be_bytes w32) both.1 ∙ from_be_bytes-to_be_bytes_4 n small in
    other (is ∙ ap hex8 (sym same))
