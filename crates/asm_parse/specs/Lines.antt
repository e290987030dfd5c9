-- Lines and their statements.
use Rattle.std.specs.Prelude.{ℕ, not, Bool, if◌then◌else◌, List, [], ◌∷◌, ◌++◌, map, Result, Ok, Err, codes}
use Rattle.std.specs.List.{enumerate_from}
use Rattle.std.specs.List.Sorted.{IsNonDecreasingBy}
use Rattle.std.specs.Option.{ok_or}
use Rattle.asm_token.specs.declared.fault.AsmCause.{AsmCause}
use Rattle.asm_token.specs.declared.fault.AsmCause.TheVariants.{UnknownName, BadOperand}
use Rattle.asm_token.specs.declared.token.Token.{Token}
use Rattle.asm_token.specs.declared.token.Token.TheVariants as tokens
use Rattle.asm_token.specs.Bytes.{is_one_of}
use Rattle.kmp_base.specs.Bind.{◌>>=◌}
use Rattle.asm_token.specs.Faults.{at_line}
use Rattle.asm_token.specs.Tokens.{tokens_of}
use Rattle.asm_parse.specs.declared.forms.Form.{Form}
use Rattle.asm_parse.specs.declared.statement.Body.{Body}
use Rattle.asm_parse.specs.declared.statement.Body.TheVariants.{Label}
use Rattle.asm_parse.specs.declared.statement.Part.{Part}
use Rattle.asm_parse.specs.declared.statement.Part.TheVariants as parts
use Rattle.asm_parse.specs.declared.statement.Statement.{Statement}
use Rattle.asm_parse.specs.Forms.{form_of, stands_in, part_behind}
use Rattle.asm_parse.specs.Statements.{statement_in}

-- The labels at the front of a line, each a name and a colon.
abbrev pub labels_in : List Token → List (List ℕ)
labels_in (tokens.Name label ∷ tokens.Colon ∷ rest) = label ∷ labels_in rest
labels_in other = []

-- what stands behind the labels
abbrev pub behind_labels : List Token → List Token
behind_labels (tokens.Name label ∷ tokens.Colon ∷ rest) = behind_labels rest
behind_labels other = other

-- the statement of a form in the part in force, and the part that is in force behind it
unfoldable pub form_in : Part → Form → List Token → Result (List Body × Part) AsmCause
form_in part form ts =
    if stands_in form part then (statement_in form ts >>= λ bodies. Ok (bodies, part_behind form part)) else Err BadOperand

-- Nothing stands behind the labels, or a statement's name and its operands.
unfoldable pub named_in : Part → List Token → Result (List Body × Part) AsmCause
named_in part [] = Ok ([], part)
named_in part (tokens.Name name ∷ ts) = ok_or (form_of name) UnknownName >>= λ form. form_in part form ts
named_in part other = Err BadOperand

-- A line is judged by its tokens, the name behind the labels, the part in force, and the operands, in this order.
unfoldable pub line_of : Part → List ℕ → Result (List Body × Part) AsmCause
line_of part line = do
  ts ← tokens_of line
  named ← named_in part (behind_labels ts)
  Ok (map Label (labels_in ts) ++ named.0, named.1)

-- any byte but a line feed
abbrev pub is_within_line : ℕ → Bool
is_within_line b = not (is_one_of (codes "\n") b)

-- one more byte in front of the first line
abbrev pub with_byte : ℕ → List (List ℕ) → List (List ℕ)
with_byte b [] = (b ∷ []) ∷ []
with_byte b (line ∷ lines) = (b ∷ line) ∷ lines

-- The lines of a text. Each ends at a line feed, or at the text's end.
unfoldable pub lines_of : List ℕ → List (List ℕ)
lines_of [] = []
lines_of (b ∷ bytes) = if is_within_line b then with_byte b (lines_of bytes) else [] ∷ lines_of bytes

-- a statement has the number of its line
abbrev pub on_line : ℕ → Body → Statement
on_line line body = record { line = line; body = body }

-- The statements of lines with their numbers, the first line in a part. The first faulty line answers.
unfoldable pub statements_from : Part → List (ℕ × List ℕ) → Result (List Statement) (AsmCause × ℕ)
statements_from part [] = Ok []
statements_from part (line ∷ lines) = do
  here ← at_line line.0 (line_of part line.1)
  others ← statements_from here.1 lines
  Ok (map (on_line line.0) here.0 ++ others)

-- The statements of a text, whose lines are numbered from 1. The text part is in force at its start.
abbrev pub statements_of : List ℕ → Result (List Statement) (AsmCause × ℕ)
statements_of text = statements_from parts.Text (enumerate_from 1 (lines_of text))

-- No statement has a lower line than one before it.
abbrev pub AreRising : List Statement → Type 0
AreRising statements = IsNonDecreasingBy (λ statement. statement.line) statements
