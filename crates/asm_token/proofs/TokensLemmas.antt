-- Tokens that are read one after the other.
use Rattle.std.proofs.Common.{◌≡◌, ℕ, zero, suc, ◌-◌, ◌<◌, true, false, List, [], ◌∷◌, ◌++◌, drop, Result, Ok, Err, refl, sym, ◌∙◌}
use Rattle.std.proofs.Common.{arith}
use Rattle.asm_token.specs.declared.fault.AsmCause.{AsmCause}
use Rattle.asm_token.specs.declared.token.Token.{Token}
use Rattle.asm_token.specs.Bytes.{is_blank}
use Rattle.kmp_base.proofs.ReadingLaws.{with_front, front_grows, all_read}
use Rattle.asm_token.specs.Tokens.{token_at, tokens_from}

-- what is passed over doesn't matter
pub tokens_from-drop : (passed : ℕ) (bytes : List ℕ) → tokens_from passed bytes ≡ tokens_from 0 (drop passed bytes)
unfolding tokens_from
tokens_from-drop zero bytes = refl
tokens_from-drop (suc passed) [] = refl
tokens_from-drop (suc passed) (b ∷ rest) = tokens_from-drop passed rest

pub blank_goes_on : (b : ℕ) (rest : List ℕ) → is_blank b ≡ true → tokens_from 0 (b ∷ rest) ≡ tokens_from 0 rest
unfolding tokens_from
blank_goes_on b rest blank = rw blank refl

pub token_goes_on : (front : List Token) (b : ℕ) (rest : List ℕ) (t : Token) (size : ℕ) → is_blank b ≡ false
    → token_at b rest ≡ Ok (t, size) → 0 < size
    → with_front front (tokens_from 0 (b ∷ rest)) ≡ with_front (front ++ t ∷ []) (tokens_from 0 (drop size (b ∷ rest)))
unfolding tokens_from
token_goes_on front b rest t zero not_blank read positive = absurd (omega arith)
token_goes_on front b rest t (suc more) not_blank read positive =
    let same : suc more - 1 ≡ more = omega arith in
    rw (not_blank, read, same, tokens_from-drop more rest) (front_grows front (t ∷ []) (tokens_from 0 (drop more rest)))

pub token_ends : (cause : AsmCause) (front : List Token) (b : ℕ) (rest : List ℕ) (total : Result (List Token) AsmCause)
    → is_blank b ≡ false → token_at b rest ≡ Err cause
    → with_front front (tokens_from 0 (b ∷ rest)) ≡ total → total ≡ Err cause
unfolding tokens_from
token_ends cause front b rest total not_blank fails so_far =
    let now : with_front front (tokens_from 0 (b ∷ rest)) ≡ Err cause = rw (not_blank, fails) refl in
    sym so_far ∙ now

pub tokens_done : (front : List Token) (total : Result (List Token) AsmCause) → with_front front (tokens_from 0 []) ≡ total
    → total ≡ Ok front
unfolding tokens_from
tokens_done front total so_far = all_read front total so_far
