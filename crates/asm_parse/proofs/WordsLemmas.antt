-- Words that are read one after the other.
use Rattle.std.proofs.Common.{◌≡◌, ◌<◌, List, [], ◌∷◌, ◌++◌, length, Result, Ok, Err, refl, sym, ap, ◌∙◌, arith}
use Rattle.asm_token.specs.declared.fault.AsmCause.{AsmCause}
use Rattle.asm_token.specs.declared.token.Token.{Token}
use Rattle.asm_token.specs.declared.token.Token.TheVariants as tokens
use Rattle.kmp_base.specs.Bind.{◌>>=◌}
use Rattle.kmp_base.proofs.ReadingLaws.{with_front, front_grows, all_read}
use Rattle.asm_parse.specs.declared.statement.Body.{Body}
use Rattle.asm_parse.specs.declared.statement.Body.TheVariants.{Word}
use Rattle.asm_parse.specs.declared.statement.Value.{Value}
use Rattle.asm_parse.specs.Forms.{word}
use Rattle.asm_parse.specs.Operands.{comma_in, value_of, place_in}
use Rattle.asm_parse.specs.Statements.{more_words_in, words_in}

-- what is read where a value was
abbrev then_words : Result (Value × List Token) AsmCause → Result (List Body) AsmCause
then_words read = read >>= λ v. more_words_in v.1 >>= λ others. Ok (Word v.0 ∷ others)

behind_value : (read : Result Value AsmCause) (ts : List Token)
    → (read >>= λ value. more_words_in ts >>= λ others. Ok (Word value ∷ others)) ≡ then_words (read >>= λ value. Ok (value, ts))
behind_value (Ok value) ts = refl
behind_value (Err e) ts = refl

words_by : (ts : List Token) → words_in ts ≡ then_words (place_in word ts)
unfolding words_in
words_by [] = refl
words_by (t ∷ ts) = behind_value (value_of word t) ts

more_words_by : (t : Token) (ts : List Token) → more_words_in (t ∷ ts) ≡ then_words (comma_in (t ∷ ts) >>= place_in word)
unfolding more_words_in
more_words_by tokens.Comma [] = refl
more_words_by tokens.Comma (t ∷ ts) = behind_value (value_of word t) ts
more_words_by other ts = refl

pub first_word : (ts rest : List Token) (value : Value) → place_in word ts ≡ Ok (value, rest)
    → with_front (Word value ∷ []) (more_words_in rest) ≡ words_in ts
first_word ts rest value read = rw (words_by ts, read) refl

pub first_ends : (cause : AsmCause) (ts : List Token) → place_in word ts ≡ Err cause → words_in ts ≡ Err cause
first_ends cause ts fails = rw (words_by ts, fails) refl

pub words_go_on : (front : List Body) (ts behind rest : List Token) (value : Value) → comma_in ts ≡ Ok behind
    → place_in word behind ≡ Ok (value, rest)
    → with_front front (more_words_in ts) ≡ with_front (front ++ Word value ∷ []) (more_words_in rest)
words_go_on front [] behind rest value comma read = absurd cc
words_go_on front (t ∷ ts) behind rest value comma read =
    rw (more_words_by t ts, comma, read) (front_grows front (Word value ∷ []) (more_words_in rest))

-- the tokens that are left begin with no comma
pub comma_ends : (cause : AsmCause) (front : List Body) (ts : List Token) (total : Result (List Body) AsmCause) → 0 < length ts
    → comma_in ts ≡ Err cause
    → with_front front (more_words_in ts) ≡ total → total ≡ Err cause
comma_ends cause front [] total some fails so_far = absurd (omega arith)
comma_ends cause front (t ∷ ts) total some fails so_far =
    let now : with_front front (more_words_in (t ∷ ts)) ≡ Err cause = rw (more_words_by t ts, fails) refl in
    sym so_far ∙ now

-- no value stands behind the comma
pub word_ends : (cause : AsmCause) (front : List Body) (ts behind : List Token) (total : Result (List Body) AsmCause)
    → comma_in ts ≡ Ok behind → place_in word behind ≡ Err cause
    → with_front front (more_words_in ts) ≡ total → total ≡ Err cause
word_ends cause front [] behind total comma fails so_far = absurd cc
word_ends cause front (t ∷ ts) behind total comma fails so_far =
    let now : with_front front (more_words_in (t ∷ ts)) ≡ Err cause = rw (more_words_by t ts, comma, fails) refl in
    sym so_far ∙ now

pub words_done : (front : List Body) (ts : List Token) (total : Result (List Body) AsmCause) → ts ≡ []
    → with_front front (more_words_in ts) ≡ total → total ≡ Ok front
unfolding more_words_in
words_done front ts total empty so_far =
    all_read front total (ap (λ (us : List Token). with_front front (more_words_in us)) (sym empty) ∙ so_far)
