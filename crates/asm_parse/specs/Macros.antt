-- Macros, lists of words, and operands that may be left out: how they are written, and what they stand for.
use Rattle.std.specs.Prelude.{◌≡◌, ℕ, ◌<◌, ◌^◌, Bool, true, false, IsTrue, List, [], ◌∷◌, ◌++◌, map, Ok, codes}
use Rattle.std.specs.List.{AllByRecursion}
use Rattle.mips_isa.specs.declared.Instr.TheVariants as instrs
use Rattle.mips_isa.specs.declared.ShiftOp.TheVariants.{Sll}
use Rattle.mips_isa.specs.declared.AluOp.TheVariants.{Addu}
use Rattle.asm_token.specs.declared.number.Number.{Number}
use Rattle.asm_token.specs.declared.token.Token.{Token}
use Rattle.asm_token.specs.declared.token.Token.TheVariants as tokens
use Rattle.asm_token.specs.Numbers.{word_of}
use Rattle.asm_token.specs.Printing.{can_be_written, Writes}
use Rattle.asm_parse.specs.declared.statement.Body.{Body}
use Rattle.asm_parse.specs.declared.statement.Body.TheVariants as bodies
use Rattle.asm_parse.specs.declared.statement.Part.{Part}
use Rattle.asm_parse.specs.declared.statement.Part.TheVariants as parts
use Rattle.asm_parse.specs.declared.statement.Value.{Value}
use Rattle.asm_parse.specs.declared.statement.Value.TheVariants as values
use Rattle.asm_parse.specs.Forms.{is_part}
use Rattle.asm_parse.specs.Lines.{line_of}
use Rattle.asm_parse.specs.Printing.{register, signed_number, value_token, one, with_operands, label_tokens, IsWord}

pub data Macro : Type 0 where
  Nop : Macro
  -- one register's word into another
  Move : ℕ → ℕ → Macro
  -- a branch that is always taken, to a label or by an immediate
  Branch : List ℕ → Macro
  BranchBy : ℕ → Macro
  -- a number into a register
  Li : ℕ → Number → Macro
  -- without an offset
  Lw : ℕ → ℕ → Macro
  Sw : ℕ → ℕ → Macro
  -- without a register for the return address
  JumpLink : ℕ → Macro
  -- several words
  Words : Value → List Value → Macro
  Globl : List ℕ → Macro

-- `(rs)`
abbrev pub bare_address : ℕ → List Token
bare_address rs = tokens.Open ∷ register rs ∷ tokens.Close ∷ []

abbrev pub values_tokens : List Value → List (List Token)
values_tokens values = map (λ value. one (value_token value)) values

abbrev pub macro_tokens : Macro → List Token
macro_tokens Nop = with_operands (codes "nop") []
macro_tokens (Move rd rs) = with_operands (codes "move") (one (register rd) ∷ one (register rs) ∷ [])
macro_tokens (Branch label) = with_operands (codes "b") (one (tokens.Name label) ∷ [])
macro_tokens (BranchBy imm) = with_operands (codes "b") (one (signed_number imm) ∷ [])
macro_tokens (Li rt n) = with_operands (codes "li") (one (register rt) ∷ one (tokens.Number n) ∷ [])
macro_tokens (Lw rt rs) = with_operands (codes "lw") (one (register rt) ∷ bare_address rs ∷ [])
macro_tokens (Sw rt rs) = with_operands (codes "sw") (one (register rt) ∷ bare_address rs ∷ [])
macro_tokens (JumpLink rs) = with_operands (codes "jalr") (one (register rs) ∷ [])
macro_tokens (Words value values) = with_operands (codes ".word") (values_tokens (value ∷ values))
macro_tokens (Globl label) = with_operands (codes ".globl") (one (tokens.Name label) ∷ [])

-- What a macro stands for.
abbrev pub macro_bodies : Macro → List Body
macro_bodies Nop = bodies.Plain (instrs.Shift Sll 0 0 0) ∷ []
macro_bodies (Move rd rs) = bodies.Plain (instrs.Alu Addu rd rs 0) ∷ []
macro_bodies (Branch label) = bodies.BranchTo (instrs.BranchTwo false 0 0 0) label ∷ []
macro_bodies (BranchBy imm) = bodies.Plain (instrs.BranchTwo false 0 0 imm) ∷ []
macro_bodies (Li rt n) = bodies.Load rt (values.Number (word_of n)) ∷ []
macro_bodies (Lw rt rs) = bodies.Plain (instrs.Lw rt rs 0) ∷ []
macro_bodies (Sw rt rs) = bodies.Plain (instrs.Sw rt rs 0) ∷ []
macro_bodies (JumpLink rs) = bodies.Plain (instrs.JumpLink 31 rs) ∷ []
macro_bodies (Words value values) = map bodies.Word (value ∷ values)
macro_bodies (Globl label) = []

-- registers are below 32, immediates have 16 bits, and numbers 32
abbrev pub IsMacro : Macro → Type 0
IsMacro (Move rd rs) = (rd < 32) × (rs < 32)
IsMacro (BranchBy imm) = imm < 2 ^ 16
IsMacro (Li rt n) = (rt < 32) × IsTrue (can_be_written (tokens.Number n))
IsMacro (Lw rt rs) = (rt < 32) × (rs < 32)
IsMacro (Sw rt rs) = (rt < 32) × (rs < 32)
IsMacro (JumpLink rs) = rs < 32
IsMacro (Words value values) = IsWord value × AllByRecursion IsWord values
IsMacro other = Unit {0}

-- words stand in the data part, instructions in the text part, and `.globl` in either
abbrev pub macro_stands : Macro → Part → Bool
macro_stands (Words value values) part = is_part parts.Data part
macro_stands (Globl label) part = true
macro_stands instruction part = is_part parts.Text part

-- A line that writes labels and a macro is read as these labels and what the macro stands for.
abbrev pub WrittenMacrosAreRead : Type 0
WrittenMacrosAreRead =
    (part : Part) (labels : List (List ℕ)) (m : Macro) (line : List ℕ)
    → IsMacro m → IsTrue (macro_stands m part) → Writes line (label_tokens labels ++ macro_tokens m)
    → line_of part line ≡ Ok (map bodies.Label labels ++ macro_bodies m, part)
