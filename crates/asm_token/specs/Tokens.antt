-- The tokens of a line.
use Rattle.std.specs.Prelude.{ℕ, zero, suc, Bool, true, false, ◌+◌, ◌-◌, ◌^◌, ◌==◌, ◌||◌, nat_le, nat_lt, if◌then◌else◌, List, [], ◌∷◌}
use Rattle.std.specs.Prelude.{length, drop, take_while, Result, Ok, Err, codes, slice_index, nat_eq}
use Rattle.std.specs.List.{starts_with}
use Rattle.std.specs.Char.{is_digit, is_ascii_digit, is_ascii_alphanumeric}
use Rattle.std.specs.Str.Parse.{digits_value}
use Rattle.asm_token.specs.declared.fault.AsmCause.{AsmCause}
use Rattle.asm_token.specs.declared.fault.AsmCause.TheVariants.{BadByte, Range}
use Rattle.asm_token.specs.declared.token.Token.{Token}
use Rattle.asm_token.specs.declared.token.Token.TheVariants as tokens
use Rattle.asm_token.specs.Bytes.{is_one_of, is_blank, begins_name, is_name_byte, cuts_number, is_before_comment}
use Rattle.kmp_base.specs.Bind.{◌>>=◌}

-- A number needs a digit, and some bytes may not stand behind its last one.
abbrev pub is_cut_wrongly : List ℕ → List ℕ → Bool
is_cut_wrongly digits behind = (length digits == 0) || cuts_number (slice_index behind 0)

-- The digits at the front, as many as there are: their value, which is below 2 ^ 32, and how many.
unfoldable pub digits_at : ℕ → List ℕ → Result (ℕ × ℕ) AsmCause
digits_at radix bytes =
    let digits = take_while (λ b. is_digit b radix) bytes in
    if is_cut_wrongly digits (drop (length digits) bytes) then Err BadByte
    else (if nat_le (2 ^ 32) (digits_value radix digits) then Err Range else Ok (digits_value radix digits, length digits))

-- A number without a sign, and how many bytes it has: decimal, or hexadecimal behind `0x`.
unfoldable pub unsigned_at : List ℕ → Result (ℕ × ℕ) AsmCause
unsigned_at bytes =
    if starts_with nat_eq bytes (codes "0x") then (digits_at 16 (drop 2 bytes) >>= λ n. Ok (n.0, n.1 + 2))
    else digits_at 10 bytes

-- a number that begins with a digit
unfoldable pub positive_at : List ℕ → Result (Token × ℕ) AsmCause
positive_at bytes = unsigned_at bytes >>= λ n. Ok (tokens.Number (record { negative = false; magnitude = n.0 }), n.1)

-- a number from behind its `-`; it is at least -2 ^ 31
unfoldable pub negative_at : List ℕ → Result (Token × ℕ) AsmCause
negative_at bytes = unsigned_at bytes >>= λ n.
    if nat_lt (2 ^ 31) n.0 then Err Range else Ok (tokens.Number (record { negative = true; magnitude = n.0 }), n.1 + 1)

-- a name, as many bytes as can stand in it
unfoldable pub name_at : List ℕ → Result (Token × ℕ) AsmCause
name_at bytes = let name = take_while is_name_byte bytes in Ok (tokens.Name name, length name)

-- a register from behind its `$`: letters and digits, of which there is at least one
unfoldable pub register_at : List ℕ → Result (Token × ℕ) AsmCause
register_at bytes =
    let name = take_while is_ascii_alphanumeric bytes in
    if length name == 0 then Err BadByte else Ok (tokens.Register name, length name + 1)

-- a mark, which is one byte
abbrev pub mark_at : ℕ → Result (Token × ℕ) AsmCause
mark_at b =
    if is_one_of (codes ",") b then Ok (tokens.Comma, 1)
    else (if is_one_of (codes ":") b then Ok (tokens.Colon, 1)
    else (if is_one_of (codes "(") b then Ok (tokens.Open, 1)
    else (if is_one_of (codes ")") b then Ok (tokens.Close, 1) else Err BadByte)))

-- The token that begins at a byte, as long as it can be, and how many bytes it has.
unfoldable pub token_at : ℕ → List ℕ → Result (Token × ℕ) AsmCause
token_at b rest =
    if begins_name b then name_at (b ∷ rest)
    else (if is_one_of (codes "$") b then register_at rest
    else (if is_ascii_digit b then positive_at (b ∷ rest)
    else (if is_one_of (codes "-") b then negative_at rest else mark_at b)))

-- The tokens from a place on. The bytes of the token before are passed over, and so are blanks; at any other byte a token begins.
unfoldable pub tokens_from : ℕ → List ℕ → Result (List Token) AsmCause
tokens_from passed [] = Ok []
tokens_from (suc passed) (b ∷ rest) = tokens_from passed rest
tokens_from zero (b ∷ rest) =
    if is_blank b then tokens_from zero rest
    else (token_at b rest >>= λ first. tokens_from (first.1 - 1) rest >>= λ others. Ok (first.0 ∷ others))

-- `#` begins a comment to the end of the line.
abbrev pub without_comment : List ℕ → List ℕ
without_comment line = take_while is_before_comment line

abbrev pub tokens_of : List ℕ → Result (List Token) AsmCause
tokens_of line = tokens_from 0 (without_comment line)
