-- A line that writes tokens is read as these tokens.
use Rattle.std.proofs.Common.{◌≡◌, ℕ, zero, suc, ◌+◌, ◌-◌, ◌^◌, ◌<◌, ◌≤◌, Bool, true, false, not, ◌||◌, ◌==◌, nat_le, IsTrue, List, [], ◌∷◌}
use Rattle.std.proofs.Common.{◌++◌, length, map, drop, slice_index, Ok, refl, sym, ap, ◌∙◌, append_assoc, one-add, add-one, arith}
use Rattle.std.specs.Prelude.{codes, nat_eq, nat_lt}
use Rattle.std.specs.Fmt.{decimal}
use Rattle.std.specs.List.{list_all, take_while, starts_with}
use Rattle.std.specs.Char.{is_digit, digit_value, is_ascii_digit, is_ascii_alphanumeric}
use Rattle.std.specs.Str.Parse.{AllDigits, IsNumeral, digits_value}
use Rattle.std.proofs.Math.Seq.{drop-append_seam}
use Rattle.std.proofs.lemmas.Bool.{and_parts, not-true}
use Rattle.std.proofs.lemmas.Bool.Decides.{nat_tests}
use Rattle.std.proofs.lemmas.Fmt.{decimal_is_IsNumeral}
use Rattle.std.proofs.lemmas.List.{append-nil}
use Rattle.std_laws.proofs.ListLaws.{list_all-weaker, list_all_both}
use Rattle.asm_token.specs.declared.token.Token.{Token}
use Rattle.asm_token.specs.declared.token.Token.TheVariants as tokens
use Rattle.asm_token.specs.Bytes.{is_one_of, is_blank, begins_name, is_name_byte, cuts_number, is_before_comment}
use Rattle.asm_token.specs.Tokens.{digits_at, unsigned_at, positive_at, negative_at, name_at, register_at, token_at, tokens_from}
use Rattle.asm_token.specs.Tokens.{without_comment, tokens_of}
use Rattle.asm_token.specs.Printing.{number_text, token_text, is_name, can_be_written, ends_before, spaced_text, AreApart, IsComment}
use Rattle.asm_token.specs.Printing.{Writes, with_blank, printed_line}
use Rattle.asm_token.proofs.TokensLemmas.{tokens_from-drop, blank_goes_on}

-- no byte is there, or it fails a test
abbrev Stops : (ℕ → Bool) → List ℕ → Type 0
Stops p [] = Unit {0}
Stops p (b ∷ rest) = p b ≡ false

-- what passes is taken, up to what fails
front_taken : (p : ℕ → Bool) (xs ys : List ℕ) → list_all p xs ≡ true → Stops p ys → take_while p (xs ++ ys) ≡ xs
front_taken p [] [] all stops = refl
front_taken p [] (y ∷ ys) all stops = rw stops refl
front_taken p (x ∷ xs) ys all stops =
    let each = and_parts (p x) (list_all p xs) all in
    rw (each.0, one-add) (ap (λ (zs : List ℕ). x ∷ zs) (front_taken p xs ys each.1 stops))

-- Bytes.

name_begins : (b : ℕ) → begins_name b ≡ true → is_name_byte b ≡ true
name_begins b begins = rw begins refl

no_blank : (b : ℕ) → begins_name b ≡ true → is_blank b ≡ false
no_blank b begins = grind (arith, nat_tests)

digit_within : (b : ℕ) → digit_value b < 10 → (48 ≤ b) × (b ≤ 57)
digit_within b lt = grind (arith, nat_tests)

digit_is : (b : ℕ) → 48 ≤ b → b ≤ 57 → (is_ascii_digit b ≡ true) × (begins_name b ≡ false) × (is_one_of (codes "$") b ≡ false)
    × (is_blank b ≡ false)
digit_is b low high = (grind (arith, nat_tests), grind (arith, nat_tests), grind (arith, nat_tests), grind (arith, nat_tests))

-- the bytes that tokens and blanks are written by
abbrev pub is_text_byte : ℕ → Bool
is_text_byte b = is_name_byte b || is_one_of (codes " \t\r$-,:()") b

name_in_text : (b : ℕ) → is_name_byte b ≡ true → is_text_byte b ≡ true
name_in_text b name = rw name refl

word_in_text : (b : ℕ) → is_ascii_alphanumeric b ≡ true → is_text_byte b ≡ true
word_in_text b word = grind (arith, nat_tests)

digit_in_text : (b : ℕ) → digit_value b < 10 → is_text_byte b ≡ true
digit_in_text b lt = let within = digit_within b lt in grind (arith, nat_tests)

blank_in_text : (b : ℕ) → is_blank b ≡ true → is_text_byte b ≡ true
blank_in_text b blank = grind (arith, nat_tests)

text_before_comment : (b : ℕ) → is_text_byte b ≡ true → is_before_comment b ≡ true
text_before_comment b text = grind (arith, nat_tests)

-- What follows a token.

stops_at : (p : ℕ → Bool) (rest : List ℕ) → p (slice_index rest 0) ≡ false → Stops p rest
stops_at p [] fails = tt
stops_at p (b ∷ rest) fails = fails

-- a byte that a number may not be followed by
abbrev goes_on : ℕ → Bool
goes_on b = is_name_byte b || is_one_of (codes "$-") b

no_digit : (b : ℕ) → goes_on b ≡ false → is_digit b 10 ≡ false
no_digit b ends = grind (arith, nat_tests)

no_cut : (b : ℕ) → goes_on b ≡ false → cuts_number b ≡ false
no_cut b ends = grind (arith, nat_tests)

no_letter : (b : ℕ) → goes_on b ≡ false → nat_eq 120 b ≡ false
no_letter b ends = grind (arith, nat_tests)

-- The first token of a line.

token_first : (b : ℕ) (rest behind : List ℕ) (t : Token) (size : ℕ) (ts : List Token) → is_blank b ≡ false → token_at b rest ≡ Ok (t, size)
    → 0 < size
    → drop size (b ∷ rest) ≡ behind → tokens_from 0 behind ≡ Ok ts → tokens_from 0 (b ∷ rest) ≡ Ok (t ∷ ts)
unfolding tokens_from
token_first b rest behind t zero ts not_blank read positive behind_is others = absurd (omega arith)
token_first b rest behind t (suc more) ts not_blank read positive behind_is others =
    let same : suc more - 1 ≡ more = omega arith in
    rw (not_blank, read, same, tokens_from-drop more rest, behind_is, others) refl

-- Names.

at_name : (b : ℕ) (rest : List ℕ) → begins_name b ≡ true → token_at b rest ≡ name_at (b ∷ rest)
unfolding token_at
at_name b rest begins = rw begins refl

name_read : (name rest : List ℕ) → list_all is_name_byte name ≡ true → Stops is_name_byte rest
    → name_at (name ++ rest) ≡ Ok (tokens.Name name, length name)
unfolding name_at
name_read name rest all stops = rw (front_taken is_name_byte name rest all stops) refl

name_bytes : (name : List ℕ) → is_name name ≡ true → list_all is_name_byte name ≡ true
name_bytes [] is = absurd cc
name_bytes (b ∷ more) is =
    let each = and_parts (begins_name b) (list_all is_name_byte more) is in
    rw (name_begins b each.0) each.1

name_first : (name rest : List ℕ) (ts : List Token) → is_name name ≡ true → Stops is_name_byte rest → tokens_from 0 rest ≡ Ok ts
    → tokens_from 0 (name ++ rest) ≡ Ok (tokens.Name name ∷ ts)
name_first [] rest ts is stops others = absurd cc
name_first (b ∷ more) rest ts is stops others =
    let begins = (and_parts (begins_name b) (list_all is_name_byte more) is).0 in
    let read = name_read (b ∷ more) rest (name_bytes (b ∷ more) is) stops in
    token_first b (more ++ rest) rest (tokens.Name (b ∷ more)) (length (b ∷ more)) ts (no_blank b begins)
    (at_name b (more ++ rest) begins ∙ read) (omega arith)
    (drop-append_seam (b ∷ more) rest) others

-- Registers.

at_register : (rest : List ℕ) → token_at 36 rest ≡ register_at rest
unfolding token_at
at_register rest = refl

register_read : (name rest : List ℕ) → (length name == 0) ≡ false → list_all is_ascii_alphanumeric name ≡ true
    → Stops is_ascii_alphanumeric rest
    → register_at (name ++ rest) ≡ Ok (tokens.Register name, length name + 1)
unfolding register_at
register_read name rest some all stops = rw (front_taken is_ascii_alphanumeric name rest all stops, some) refl

register_first : (name rest : List ℕ) (ts : List Token) → (length name == 0) ≡ false → list_all is_ascii_alphanumeric name ≡ true
    → Stops is_ascii_alphanumeric rest
    → tokens_from 0 rest ≡ Ok ts → tokens_from 0 (36 ∷ (name ++ rest)) ≡ Ok (tokens.Register name ∷ ts)
register_first name rest ts some all stops others =
    token_first 36 (name ++ rest) rest (tokens.Register name) (length name + 1) ts refl
    (at_register (name ++ rest) ∙ register_read name rest some all stops) (omega arith)
    (rw add-one (drop-append_seam name rest)) others

-- Numbers.

digits_pass : (p : ℕ → Bool) (ds : List ℕ) → ((b : ℕ) → digit_value b < 10 → p b ≡ true) → AllDigits 10 ds → list_all p ds ≡ true
digits_pass p [] implied are = refl
digits_pass p (d ∷ ds) implied are = rw (implied d are.0) (digits_pass p ds implied are.1)

digit_in_name : (b : ℕ) → digit_value b < 10 → is_name_byte b ≡ true
digit_in_name b lt = let within = digit_within b lt in grind (arith, nat_tests)

-- decimal digits can stand in a name
pub decimal_in_name : (n : ℕ) → n < 2 ^ 64 → list_all is_name_byte (decimal n) ≡ true
decimal_in_name n low = digits_pass is_name_byte (decimal n) digit_in_name (decimal_is_IsNumeral n low).0.1

is_a_digit : (b : ℕ) → digit_value b < 10 → is_digit b 10 ≡ true
is_a_digit b lt = grind (arith, nat_tests)

digit_no_letter : (b : ℕ) → digit_value b < 10 → nat_eq 120 b ≡ false
digit_no_letter b lt = let within = digit_within b lt in grind (arith, nat_tests)

-- decimal digits don't begin with `0x`
no_prefix : (ds rest : List ℕ) → IsNumeral 10 ds → goes_on (slice_index rest 0) ≡ false
    → starts_with nat_eq (ds ++ rest) (codes "0x") ≡ false
no_prefix [] rest is ends = absurd (omega (arith, is.0))
no_prefix (d ∷ []) [] is ends = grind (arith, nat_tests)
no_prefix (d ∷ []) (b ∷ rest) is ends = let other = no_letter b ends in grind (arith, nat_tests)
no_prefix (d ∷ e ∷ ds) rest is ends = let other = digit_no_letter e is.1.1.0 in grind (arith, nat_tests)

digits_read : (ds rest : List ℕ) → IsNumeral 10 ds → digits_value 10 ds < 2 ^ 32 → goes_on (slice_index rest 0) ≡ false
    → digits_at 10 (ds ++ rest) ≡ Ok (digits_value 10 ds, length ds)
unfolding digits_at
digits_read ds rest is fits ends =
    let taken = front_taken (λ b. is_digit b 10) ds rest (digits_pass (λ b. is_digit b 10) ds is_a_digit is.1)
    (stops_at (λ b. is_digit b 10) rest (no_digit (slice_index rest 0) ends)) in
    let some : (length ds == 0) ≡ false = grind (arith, nat_tests, is.0) in
    let low : nat_le (2 ^ 32) (digits_value 10 ds) ≡ false = grind (arith, nat_tests) in
    rw (taken, drop-append_seam ds rest, some, no_cut (slice_index rest 0) ends, low) refl

unsigned_read : (ds rest : List ℕ) → IsNumeral 10 ds → digits_value 10 ds < 2 ^ 32 → goes_on (slice_index rest 0) ≡ false
    → unsigned_at (ds ++ rest) ≡ Ok (digits_value 10 ds, length ds)
unfolding unsigned_at
unsigned_read ds rest is fits ends = rw (no_prefix ds rest is ends) (digits_read ds rest is fits ends)

at_digit : (b : ℕ) (rest : List ℕ) → digit_value b < 10 → token_at b rest ≡ positive_at (b ∷ rest)
unfolding token_at
at_digit b rest lt =
    let within = digit_within b lt in
    let is = digit_is b within.0 within.1 in
    rw (is.1, is.2, is.0) refl

positive_read : (bytes : List ℕ) (n size : ℕ) → unsigned_at bytes ≡ Ok (n, size)
    → positive_at bytes ≡ Ok (tokens.Number (record { negative = false; magnitude = n }), size)
unfolding positive_at
positive_read bytes n size read = rw read refl

positive_first : (ds rest : List ℕ) (ts : List Token) → IsNumeral 10 ds → digits_value 10 ds < 2 ^ 32 → goes_on (slice_index rest 0) ≡ false
    → tokens_from 0 rest ≡ Ok ts
    → tokens_from 0 (ds ++ rest) ≡ Ok (tokens.Number (record { negative = false; magnitude = digits_value 10 ds }) ∷ ts)
positive_first [] rest ts is fits ends others = absurd (omega (arith, is.0))
positive_first (d ∷ ds) rest ts is fits ends others =
    let within = digit_within d is.1.0 in
    let size = length (d ∷ ds) in
    let value = digits_value 10 (d ∷ ds) in
    token_first d (ds ++ rest) rest (tokens.Number (record { negative = false; magnitude = value })) size ts
    (digit_is d within.0 within.1).3
    (at_digit d (ds ++ rest) is.1.0 ∙ positive_read ((d ∷ ds) ++ rest) value size (unsigned_read (d ∷ ds) rest is fits ends)) (omega arith)
    (drop-append_seam (d ∷ ds) rest) others

at_minus : (rest : List ℕ) → token_at 45 rest ≡ negative_at rest
unfolding token_at
at_minus rest = refl

negative_read : (bytes : List ℕ) (n size : ℕ) → n ≤ 2 ^ 31 → unsigned_at bytes ≡ Ok (n, size)
    → negative_at bytes ≡ Ok (tokens.Number (record { negative = true; magnitude = n }), size + 1)
unfolding negative_at
negative_read bytes n size low read =
    let within : nat_lt (2 ^ 31) n ≡ false = grind (arith, nat_tests) in
    rw (read, within) refl

negative_first : (ds rest : List ℕ) (ts : List Token) → IsNumeral 10 ds → digits_value 10 ds ≤ 2 ^ 31 → goes_on (slice_index rest 0) ≡ false
    → tokens_from 0 rest ≡ Ok ts
    → tokens_from 0 (45 ∷ (ds ++ rest)) ≡ Ok (tokens.Number (record { negative = true; magnitude = digits_value 10 ds }) ∷ ts)
negative_first ds rest ts is low ends others =
    let size = length ds in
    let value = digits_value 10 ds in
    token_first 45 (ds ++ rest) rest (tokens.Number (record { negative = true; magnitude = value })) (size + 1) ts refl
    (at_minus (ds ++ rest) ∙ negative_read (ds ++ rest) value size low (unsigned_read ds rest is (omega arith) ends)) (omega arith)
    (rw add-one (drop-append_seam ds rest)) others

number_first : (negative : Bool) (n : ℕ) (rest : List ℕ) (ts : List Token)
    → IsTrue (can_be_written (tokens.Number (record { negative = negative; magnitude = n })))
    → goes_on (slice_index rest 0) ≡ false → tokens_from 0 rest ≡ Ok ts
    → tokens_from 0 (number_text (record { negative = negative; magnitude = n }) ++ rest)
    ≡ Ok (tokens.Number (record { negative = negative; magnitude = n }) ∷ ts)
number_first false n rest ts written ends others =
    let low : n < 2 ^ 32 = grind (arith, nat_tests) in
    let is = decimal_is_IsNumeral n (omega arith) in
    rw is.1 at (positive_first (decimal n) rest ts is.0 (rw is.1 low) ends others)
number_first true n rest ts written ends others =
    let low : n ≤ 2 ^ 31 = grind (arith, nat_tests) in
    let is = decimal_is_IsNumeral n (omega arith) in
    rw is.1 at (negative_first (decimal n) rest ts is.0 (rw is.1 low) ends others)

-- Marks.

mark_first : (b : ℕ) (rest : List ℕ) (t : Token) (ts : List Token) → is_blank b ≡ false → token_at b rest ≡ Ok (t, 1)
    → tokens_from 0 rest ≡ Ok ts
    → tokens_from 0 (b ∷ rest) ≡ Ok (t ∷ ts)
mark_first b rest t ts not_blank read others = token_first b rest rest t 1 ts not_blank read (omega arith) refl others

at_mark : (rest : List ℕ) → (token_at 44 rest ≡ Ok (tokens.Comma, 1)) × (token_at 58 rest ≡ Ok (tokens.Colon, 1))
    × (token_at 40 rest ≡ Ok (tokens.Open, 1)) × (token_at 41 rest ≡ Ok (tokens.Close, 1))
unfolding token_at
at_mark rest = (refl, refl, refl, refl)

token_read : (t : Token) (rest : List ℕ) (ts : List Token) → IsTrue (can_be_written t) → IsTrue (ends_before t (slice_index rest 0))
    → tokens_from 0 rest ≡ Ok ts
    → tokens_from 0 (token_text t ++ rest) ≡ Ok (t ∷ ts)
token_read (tokens.Name name) rest ts written ends others =
    name_first name rest ts written (stops_at is_name_byte rest (not-true _ ends)) others
token_read (tokens.Register name) rest ts written ends others =
    let each = and_parts (not (length name == 0)) (list_all is_ascii_alphanumeric name) written in
    register_first name rest ts (not-true _ each.0) each.1 (stops_at is_ascii_alphanumeric rest (not-true _ ends)) others
token_read (tokens.Number n) rest ts written ends others = number_first n.negative n.magnitude rest ts written (not-true _ ends) others
token_read tokens.Comma rest ts written ends others = mark_first 44 rest tokens.Comma ts refl (at_mark rest).0 others
token_read tokens.Colon rest ts written ends others = mark_first 58 rest tokens.Colon ts refl (at_mark rest).1 others
token_read tokens.Open rest ts written ends others = mark_first 40 rest tokens.Open ts refl (at_mark rest).2 others
token_read tokens.Close rest ts written ends others = mark_first 41 rest tokens.Close ts refl (at_mark rest).3 others

-- Lines.

blanks_passed : (blanks rest : List ℕ) → list_all is_blank blanks ≡ true → tokens_from 0 (blanks ++ rest) ≡ tokens_from 0 rest
blanks_passed [] rest all = refl
blanks_passed (b ∷ blanks) rest all =
    let each = and_parts (is_blank b) (list_all is_blank blanks) all in
    blank_goes_on b (blanks ++ rest) each.0 ∙ blanks_passed blanks rest each.1

spaced_read : (ts : List (Token × List ℕ)) → AreApart ts → tokens_from 0 (spaced_text ts) ≡ Ok (map (λ t. t.0) ts)
unfolding tokens_from
spaced_read [] apart = refl
spaced_read (t ∷ ts) apart =
    token_read t.0 (t.1 ++ spaced_text ts) (map (λ (u : Token × List ℕ). u.0) ts) apart.0 apart.2
    (blanks_passed t.1 (spaced_text ts) apart.1 ∙ spaced_read ts apart.3)

-- The bytes of a line.

number_bytes : (negative : Bool) (n : ℕ) → IsTrue (can_be_written (tokens.Number (record { negative = negative; magnitude = n })))
    → list_all is_text_byte (number_text (record { negative = negative; magnitude = n })) ≡ true
number_bytes false n written = digits_pass is_text_byte (decimal n) digit_in_text (decimal_is_IsNumeral n (grind (arith, nat_tests))).0.1
number_bytes true n written = digits_pass is_text_byte (decimal n) digit_in_text (decimal_is_IsNumeral n (grind (arith, nat_tests))).0.1

token_bytes : (t : Token) → IsTrue (can_be_written t) → list_all is_text_byte (token_text t) ≡ true
token_bytes (tokens.Name name) written = list_all-weaker is_name_byte is_text_byte name_in_text name (name_bytes name written)
token_bytes (tokens.Register name) written =
    let each = and_parts (not (length name == 0)) (list_all is_ascii_alphanumeric name) written in
    list_all-weaker is_ascii_alphanumeric is_text_byte word_in_text name each.1
token_bytes (tokens.Number n) written = number_bytes n.negative n.magnitude written
token_bytes mark written = refl

pub spaced_bytes : (ts : List (Token × List ℕ)) → AreApart ts → list_all is_text_byte (spaced_text ts) ≡ true
spaced_bytes [] apart = refl
spaced_bytes (t ∷ ts) apart =
    list_all_both is_text_byte (token_text t.0) (t.1 ++ spaced_text ts) (token_bytes t.0 apart.0)
    (list_all_both is_text_byte t.1 (spaced_text ts) (list_all-weaker is_blank is_text_byte blank_in_text t.1 apart.1)
    (spaced_bytes ts apart.3))

comment_stops : (comment : List ℕ) → IsComment comment → Stops is_before_comment comment
comment_stops [] is = tt
comment_stops (b ∷ rest) is = rw is refl

pub tokens_read : (line : List ℕ) (ts : List Token) → Writes line ts → tokens_of line ≡ Ok ts
tokens_read line ts w =
    let text = spaced_text w.spaced in
    let bytes = list_all_both is_text_byte w.blanks text (list_all-weaker is_blank is_text_byte blank_in_text w.blanks w.front)
    (spaced_bytes w.spaced w.apart) in
    let before = list_all-weaker is_text_byte is_before_comment text_before_comment (w.blanks ++ text) bytes in
    let same : line ≡ (w.blanks ++ text) ++ w.comment = w.line_is ∙ sym (append_assoc w.blanks text w.comment) in
    let code : without_comment line ≡ w.blanks ++ text = ap without_comment same
    ∙ front_taken is_before_comment (w.blanks ++ text) w.comment before (comment_stops w.comment w.behind) in
    ap (tokens_from 0) code ∙ blanks_passed w.blanks text w.front ∙ spaced_read w.spaced w.apart ∙ ap Ok w.tokens_are

-- tokens with the blanks behind them are a line that writes these tokens
pub spaced_writes : (spaced : List (Token × List ℕ)) (ts : List Token) → map (λ t. t.0) spaced ≡ ts → AreApart spaced
    → Writes (spaced_text spaced) ts
spaced_writes spaced ts tokens_are apart = record {
  blanks = [];
  spaced = spaced;
  comment = [];
  line_is = sym (append-nil (spaced_text spaced));
  tokens_are = tokens_are;
  front = refl;
  apart = apart;
  behind = tt;
}

-- Lines that are printed.

blank_behind : (t : Token) → IsTrue (ends_before t 32)
blank_behind (tokens.Name name) = refl
blank_behind (tokens.Register name) = refl
blank_behind (tokens.Number n) = refl
blank_behind mark = refl

printed_apart : (ts : List Token) → IsTrue (list_all can_be_written ts) → AreApart (map with_blank ts)
printed_apart [] written = tt
printed_apart (t ∷ ts) written =
    let each = and_parts (can_be_written t) (list_all can_be_written ts) written in
    (each.0, refl, blank_behind t, printed_apart ts each.1)

printed_tokens : (ts : List Token) → map (λ (t : Token × List ℕ). t.0) (map with_blank ts) ≡ ts
printed_tokens [] = refl
printed_tokens (t ∷ ts) = ap (λ (us : List Token). t ∷ us) (printed_tokens ts)

pub printed_writes : (ts : List Token) → IsTrue (list_all can_be_written ts) → Writes (printed_line ts) ts
printed_writes ts written = spaced_writes (map with_blank ts) ts (printed_tokens ts) (printed_apart ts written)

pub printed_bytes : (ts : List Token) → IsTrue (list_all can_be_written ts) → list_all is_text_byte (printed_line ts) ≡ true
printed_bytes ts written = spaced_bytes (map with_blank ts) (printed_apart ts written)

pub printed_read : (ts : List Token) → IsTrue (list_all can_be_written ts) → tokens_of (printed_line ts) ≡ Ok ts
printed_read ts written = tokens_read (printed_line ts) ts (printed_writes ts written)
