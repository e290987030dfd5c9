-- The operands of a statement.
use Rattle.std.specs.Prelude.{ℕ, ◌<◌, if◌then◌else◌, List, [], ◌∷◌, Result, Ok, Err}
use Rattle.std.specs.Option.{ok_or}
use Rattle.asm_token.specs.declared.fault.AsmCause.{AsmCause}
use Rattle.asm_token.specs.declared.fault.AsmCause.TheVariants.{UnknownName, BadOperand, Range}
use Rattle.asm_token.specs.declared.token.Token.{Token}
use Rattle.asm_token.specs.declared.token.Token.TheVariants as tokens
use Rattle.asm_token.specs.declared.number.Number.{Number}
use Rattle.kmp_base.specs.Bind.{◌>>=◌}
use Rattle.asm_token.specs.Numbers.{word_of}
use Rattle.asm_parse.specs.declared.bounds.Bounds.{Bounds}
use Rattle.asm_parse.specs.declared.forms.Slot.{Slot}
use Rattle.asm_parse.specs.declared.forms.Slot.TheVariants.{Rd, Rs, Rt}
use Rattle.asm_parse.specs.declared.forms.Kind.{Kind}
use Rattle.asm_parse.specs.declared.forms.Kind.TheVariants as kinds
use Rattle.asm_parse.specs.declared.operands.Operand.{Operand}
use Rattle.asm_parse.specs.declared.operands.Operand.TheVariants as said
use Rattle.asm_parse.specs.declared.operands.Operands.{Operands}
use Rattle.asm_parse.specs.declared.statement.Value.{Value}
use Rattle.asm_parse.specs.declared.statement.Value.TheVariants as values
use Rattle.asm_parse.specs.Bounds.{is_within}
use Rattle.asm_parse.specs.Forms.{signed}
use Rattle.asm_parse.specs.Registers.{register_of}

-- A token that is wanted at the front, and the tokens behind it.
abbrev pub register_in : List Token → Result (ℕ × List Token) AsmCause
register_in (tokens.Register name ∷ rest) = ok_or (register_of name) UnknownName >>= λ register. Ok (register, rest)
register_in other = Err BadOperand

abbrev pub number_in : Bounds → List Token → Result (Number × List Token) AsmCause
number_in bounds (tokens.Number n ∷ rest) = if is_within bounds n then Ok (n, rest) else Err Range
number_in bounds other = Err BadOperand

abbrev pub label_in : List Token → Result (Operand × List Token) AsmCause
label_in (tokens.Name label ∷ rest) = Ok (said.Value (values.Of label), rest)
label_in other = Err BadOperand

abbrev pub comma_in : List Token → Result (List Token) AsmCause
comma_in (tokens.Comma ∷ rest) = Ok rest
comma_in other = Err BadOperand

abbrev pub open_in : List Token → Result (List Token) AsmCause
open_in (tokens.Open ∷ rest) = Ok rest
open_in other = Err BadOperand

abbrev pub close_in : List Token → Result (List Token) AsmCause
close_in (tokens.Close ∷ rest) = Ok rest
close_in other = Err BadOperand

-- nothing stands behind what was read
abbrev pub end_in : {A : Type 0} → A → List Token → Result A AsmCause
end_in read [] = Ok read
end_in read other = Err BadOperand

-- a label or a number, as one token
abbrev pub value_of : Bounds → Token → Result Value AsmCause
value_of bounds (tokens.Name label) = Ok (values.Of label)
value_of bounds (tokens.Number n) = if is_within bounds n then Ok (values.Number (word_of n)) else Err Range
value_of bounds other = Err BadOperand

abbrev pub place_in : Bounds → List Token → Result (Value × List Token) AsmCause
place_in bounds [] = Err BadOperand
place_in bounds (t ∷ rest) = value_of bounds t >>= λ value. Ok (value, rest)

-- an offset, or 0 where it is left out
abbrev pub offset_in : List Token → Result (ℕ × List Token) AsmCause
offset_in (tokens.Open ∷ rest) = Ok (0, tokens.Open ∷ rest)
offset_in other = number_in signed other >>= λ n. Ok (word_of n.0, n.1)

-- operands with one more register
abbrev pub with_register : Slot → ℕ → Operands → Operands
with_register Rd register operands = record operands { rd = register }
with_register Rs register operands = record operands { rs = register }
with_register Rt register operands = record operands { rt = register }

-- `offset(rs)`
unfoldable pub address_in : List Token → Result (Operand × List Token) AsmCause
address_in ts = do
  offset ← offset_in ts
  opened ← open_in offset.1
  base ← register_in opened
  rest ← close_in base.1
  Ok (said.Address offset.0 base.0, rest)

-- a link whose first register was read; without a second one, that is rs, and rd is register 31
abbrev pub second_register : ℕ → List Token → Result (Operand × List Token) AsmCause
second_register first (tokens.Comma ∷ rest) = register_in rest >>= λ second. Ok (said.Link first second.0, second.1)
second_register first other = Ok (said.Link 31 first, other)

-- `rd, rs` or `rs`
unfoldable pub link_in : List Token → Result (Operand × List Token) AsmCause
link_in ts = register_in ts >>= λ first. second_register first.0 first.1

-- an operand of a kind at the front
unfoldable pub operand_in : Kind → List Token → Result (Operand × List Token) AsmCause
operand_in (kinds.Register slot) ts = register_in ts >>= λ r. Ok (said.Register slot r.0, r.1)
operand_in (kinds.Number bounds) ts = number_in bounds ts >>= λ n. Ok (said.Value (values.Number (word_of n.0)), n.1)
operand_in (kinds.Place bounds) ts = place_in bounds ts >>= λ v. Ok (said.Value v.0, v.1)
operand_in kinds.Label ts = label_in ts
operand_in kinds.Address ts = address_in ts
operand_in kinds.Link ts = link_in ts

-- operands with one more
abbrev pub with_operand : Operand → Operands → Operands
with_operand (said.Register slot register) operands = with_register slot register operands
with_operand (said.Value value) operands = record operands { value = value }
with_operand (said.Address offset base) operands = record operands { rs = base; value = values.Number offset }
with_operand (said.Link rd rs) operands = record operands { rd = rd; rs = rs }

-- operands of these kinds, each behind a comma, and nothing behind them
unfoldable pub more_operands_in : List Kind → Operands → List Token → Result Operands AsmCause
more_operands_in [] operands ts = end_in operands ts
more_operands_in (kind ∷ kinds) operands ts = do
  rest ← comma_in ts
  next ← operand_in kind rest
  more_operands_in kinds (with_operand next.0 operands) next.1

-- before the first operand
abbrev pub no_operands : Operands
no_operands = record { rd = 0; rs = 0; rt = 0; value = values.Number 0 }

-- Operands of these kinds from the left, a comma between each two, and nothing behind them.
unfoldable pub operands_in : List Kind → List Token → Result Operands AsmCause
operands_in [] ts = end_in no_operands ts
operands_in (kind ∷ kinds) ts = operand_in kind ts >>= λ next. more_operands_in kinds (with_operand next.0 no_operands) next.1

-- Every register is below 32.
abbrev pub AreRegisters : Operands → Type 0
AreRegisters operands = (operands.rd < 32) × (operands.rs < 32) × (operands.rt < 32)

-- The registers that an operand names are below 32.
abbrev pub IsOperand : Operand → Type 0
IsOperand (said.Register slot register) = register < 32
IsOperand (said.Value value) = Unit {0}
IsOperand (said.Address offset base) = base < 32
IsOperand (said.Link rd rs) = (rd < 32) × (rs < 32)
