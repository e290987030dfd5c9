-- The kinds of bytes in a source.
use Rattle.std.specs.Prelude.{ℕ, Bool, not, ◌||◌, ◌==◌, List, codes}
use Rattle.std.specs.List.{list_any}
use Rattle.std.specs.Char.{is_ascii_alphabetic, is_ascii_digit}

-- whether a byte is one of a text's
abbrev pub is_one_of : List ℕ → ℕ → Bool
is_one_of text b = list_any (λ c. b == c) text

-- a space, a tab or a carriage return
abbrev pub is_blank : ℕ → Bool
is_blank b = is_one_of (codes " \t\r") b

-- a letter, `_` or `.`
abbrev pub begins_name : ℕ → Bool
begins_name b = is_ascii_alphabetic b || is_one_of (codes "_.") b

-- such a byte, or a digit
abbrev pub is_name_byte : ℕ → Bool
is_name_byte b = begins_name b || is_ascii_digit b

-- what may not follow the digits of a number: a letter, `_`, `.`, `$` or `-`
abbrev pub cuts_number : ℕ → Bool
cuts_number b = begins_name b || is_one_of (codes "$-") b

-- any byte but `#`, which begins a comment
abbrev pub is_before_comment : ℕ → Bool
is_before_comment b = not (is_one_of (codes "#") b)
