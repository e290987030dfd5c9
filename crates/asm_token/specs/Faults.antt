-- What is wrong with a source.
use Rattle.std.specs.Prelude.{ℕ, Result, Ok, Err}
use Rattle.asm_token.specs.declared.fault.AsmCause.{AsmCause}

-- what is wrong with a line, and the line's number
abbrev pub at_line : {A : Type 0} → ℕ → Result A AsmCause → Result A (AsmCause × ℕ)
at_line line (Ok x) = Ok x
at_line line (Err cause) = Err (cause, line)
