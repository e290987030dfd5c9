-- Lines that write tokens.
use Rattle.std.specs.Prelude.{◌≡◌, ℕ, ◌-◌, ◌^◌, ◌==◌, ◌&&◌, ◌||◌, Bool, true, false, not, nat_le, if◌then◌else◌, IsTrue, List, [], ◌∷◌}
use Rattle.std.specs.Prelude.{◌++◌, length, map, Ok, codes, slice_index}
use Rattle.std.specs.Fmt.{decimal}
use Rattle.std.specs.List.{list_all}
use Rattle.std.specs.Char.{is_ascii_alphanumeric}
use Rattle.asm_token.specs.declared.number.Number.{Number}
use Rattle.asm_token.specs.declared.token.Token.{Token}
use Rattle.asm_token.specs.declared.token.Token.TheVariants as tokens
use Rattle.asm_token.specs.Bytes.{is_one_of, is_blank, begins_name, is_name_byte}
use Rattle.asm_token.specs.Tokens.{tokens_of}

-- The decimal digits of a number, behind `-` where it is negative.
abbrev pub number_text : Number → List ℕ
number_text n = if n.negative then codes "-" ++ decimal n.magnitude else decimal n.magnitude

-- how a token is written
abbrev pub token_text : Token → List ℕ
token_text (tokens.Name name) = name
token_text (tokens.Register name) = codes "$" ++ name
token_text (tokens.Number n) = number_text n
token_text tokens.Comma = codes ","
token_text tokens.Colon = codes ":"
token_text tokens.Open = codes "("
token_text tokens.Close = codes ")"

-- a letter, `_` or `.`, and behind it any of these and digits
abbrev pub is_name : List ℕ → Bool
is_name [] = false
is_name (b ∷ rest) = begins_name b && list_all is_name_byte rest

-- A register has letters and digits, and a number from -2 ^ 31 to 2 ^ 32 - 1.
abbrev pub can_be_written : Token → Bool
can_be_written (tokens.Name name) = is_name name
can_be_written (tokens.Register name) = not (length name == 0) && list_all is_ascii_alphanumeric name
can_be_written (tokens.Number n) = nat_le n.magnitude (if n.negative then 2 ^ 31 else 2 ^ 32 - 1)
can_be_written mark = true

-- Whether a token ends where this byte follows. A number may not be followed by `$` and `-` either.
abbrev pub ends_before : Token → ℕ → Bool
ends_before (tokens.Name name) b = not (is_name_byte b)
ends_before (tokens.Register name) b = not (is_ascii_alphanumeric b)
ends_before (tokens.Number n) b = not (is_name_byte b || is_one_of (codes "$-") b)
ends_before mark b = true

-- tokens, each with the blanks behind it
abbrev pub spaced_text : List (Token × List ℕ) → List ℕ
spaced_text [] = []
spaced_text (t ∷ ts) = token_text t.0 ++ (t.1 ++ spaced_text ts)

-- Each can be written, blanks stand behind it, and it ends where what follows begins. The byte behind the last is told as 0.
abbrev pub AreApart : List (Token × List ℕ) → Type 0
AreApart [] = Unit {0}
AreApart (t ∷ ts) =
    IsTrue (can_be_written t.0) × IsTrue (list_all is_blank t.1) × IsTrue (ends_before t.0 (slice_index (t.1 ++ spaced_text ts) 0))
    × AreApart ts

-- nothing, or `#` and any bytes
abbrev pub IsComment : List ℕ → Type 0
IsComment [] = Unit {0}
IsComment (b ∷ rest) = b ≡ 35

-- A line writes tokens: blanks, the tokens, with or without blanks between them, and a comment.
pub record Writes (line : List ℕ) (ts : List Token) : Type 0 where
  pub blanks : List ℕ
  pub spaced : List (Token × List ℕ)
  pub comment : List ℕ
  pub line_is : line ≡ blanks ++ (spaced_text spaced ++ comment)
  pub tokens_are : map (λ t. t.0) spaced ≡ ts
  pub front : IsTrue (list_all is_blank blanks)
  pub apart : AreApart spaced
  pub behind : IsComment comment

-- The tokens of a line that writes tokens are these tokens.
abbrev pub WrittenTokensAreRead : Type 0
WrittenTokensAreRead = (line : List ℕ) (ts : List Token) → Writes line ts → tokens_of line ≡ Ok ts

-- A line that is printed has one blank behind each token.
abbrev pub with_blank : Token → Token × List ℕ
with_blank t = (t, codes " ")

abbrev pub printed_line : List Token → List ℕ
printed_line ts = spaced_text (map with_blank ts)

-- The tokens of a line that is printed are those that were printed.
abbrev pub PrintedTokensAreRead : Type 0
PrintedTokensAreRead = (ts : List Token) → IsTrue (list_all can_be_written ts) → tokens_of (printed_line ts) ≡ Ok ts
