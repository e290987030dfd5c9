-- Values that a part of a row spells. Each has one spelling: the value is guessed from the text, and
-- the text has to be its spelling.
use Rattle.std.specs.Prelude.{◌≡◌, ℕ, if◌then◌else◌, ◌&&◌, ◌<◌, nat_le, List, length, codes, Option, Some, None, Result, Ok, Err, decimal}
use Rattle.std.specs.List.{AllByRecursion}
use Rattle.std.specs.Option.{option_map}
use Rattle.std.specs.Int.{w32, from_be_bytes}
use Rattle.std.specs.Str.{bytes_eq}
use Rattle.std.specs.Str.Parse.{digits_value}
use Rattle.hex.specs.Hex.{encode_lower, decode_sized}
use Rattle.kmp_base.specs.Text.{hex8}

-- the guessed number, if the text is its decimal spelling and it is at most the limit
abbrev pub if_spelled : ℕ → List ℕ → ℕ → Option ℕ
if_spelled limit text n = if nat_le n limit && bytes_eq text (decimal n) then Some n else None

-- the number at most the limit whose decimal spelling the text is
unfoldable pub number_of : ℕ → List ℕ → Option ℕ
number_of limit text = if_spelled limit text (digits_value 10 text)

-- so many bytes
abbrev pub AreBytes : ℕ → List ℕ → Type 0
AreBytes size bytes = (length bytes ≡ size) × AllByRecursion (λ b. b < 256) bytes

-- the bytes that a text was decoded to, if the text is their spelling
abbrev pub if_bytes : {E : Type 0} → List ℕ → Result (List ℕ) E → Option (List ℕ)
if_bytes text (Ok bytes) = if bytes_eq text (encode_lower bytes) then Some bytes else None
if_bytes text (Err e) = None

-- the bytes, so many of them, whose lower-case hexadecimal digits the text is, two a byte
unfoldable pub bytes_of : ℕ → List ℕ → Option (List ℕ)
bytes_of size text = if_bytes text (decode_sized text size)

-- the word whose eight lower-case hexadecimal digits the text is
unfoldable pub word_of : List ℕ → Option ℕ
word_of text = option_map (from_be_bytes w32) (bytes_of 4 text)

-- the text that stands for no value
abbrev pub dash : List ℕ
dash = codes "-"

-- the spelling of a value, or `-` for none
abbrev pub or_dash : {X : Type 0} → (X → List ℕ) → Option X → List ℕ
or_dash spell None = dash
or_dash spell (Some x) = spell x

-- the value that a text spells, or none where it is `-`
abbrev pub optional_of : {X : Type 0} → (List ℕ → Option X) → List ℕ → Option (Option X)
optional_of one text = if bytes_eq text dash then Some None else option_map (λ x. Some x) (one text)

-- a word or `-`
abbrev pub word_or_dash : Option ℕ → List ℕ
word_or_dash n = or_dash hex8 n

unfoldable pub optional_word_of : List ℕ → Option (Option ℕ)
optional_word_of text = optional_of word_of text

-- a number at most the limit, or `-`
abbrev pub number_or_dash : Option ℕ → List ℕ
number_or_dash n = or_dash decimal n

unfoldable pub optional_number_of : ℕ → List ℕ → Option (Option ℕ)
optional_number_of limit text = optional_of (number_of limit) text

-- this text and no other
unfoldable pub exactly : List ℕ → List ℕ → Option (Unit {0})
exactly name text = if bytes_eq text name then Some tt else None
