-- A text line by line.
use Rattle.std.proofs.Common.{◌≡◌, ℕ, ◌+◌, true, List, [], ◌∷◌, ◌++◌, Ok, refl, arith}
use Rattle.std.specs.List.{list_all, enumerate_from}
use Rattle.std.proofs.lemmas.Bool.{and_parts}
use Rattle.std.proofs.lemmas.Bool.Decides.{nat_tests}
use Rattle.asm_token.proofs.PrintingLaws.{is_text_byte}
use Rattle.asm_parse.specs.declared.statement.Body.{Body}
use Rattle.asm_parse.specs.declared.statement.Part.{Part}
use Rattle.asm_parse.specs.declared.statement.Statement.{Statement}
use Rattle.asm_parse.specs.Lines.{is_within_line, lines_of, line_of, statements_from}

text_within_line : (b : ℕ) → is_text_byte b ≡ true → is_within_line b ≡ true
text_within_line b text = grind (arith, nat_tests)

-- a line of the bytes that tokens are written by, and a line feed behind it
pub line_split : (line rest : List ℕ) → list_all is_text_byte line ≡ true → lines_of (line ++ 10 ∷ rest) ≡ line ∷ lines_of rest
unfolding lines_of
line_split [] rest all = refl
line_split (b ∷ line) rest all =
    let each = and_parts (is_text_byte b) (list_all is_text_byte line) all in
    rw (text_within_line b each.0, line_split line rest each.1) refl

-- the statement of a line, and those of the lines behind it
pub statement_goes_on : (part behind : Part) (number : ℕ) (line : List ℕ) (lines : List (List ℕ)) (body : Body) (others : List Statement)
    → line_of part line ≡ Ok (body ∷ [], behind)
    → statements_from behind (enumerate_from (number + 1) lines) ≡ Ok others
    → statements_from part (enumerate_from number (line ∷ lines)) ≡ Ok (record { line = number; body = body } ∷ others)
unfolding statements_from
statement_goes_on part behind number line lines body others read rest = rw (read, rest) refl
