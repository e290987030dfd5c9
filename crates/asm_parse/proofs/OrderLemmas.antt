-- Statements stand in the order of their lines.
use Rattle.std.proofs.Common.{ℕ, zero, suc, ◌+◌, ◌≤◌, List, [], ◌∷◌, ◌++◌, map, arith}
use Rattle.std.specs.Prelude.{IfOk, All}
use Rattle.std.specs.List.{enumerate_from}
use Rattle.kmp_base.proofs.ReadingLaws.{then_holds, if_holds}
use Rattle.asm_token.specs.Faults.{at_line}
use Rattle.asm_parse.specs.declared.statement.Body.{Body}
use Rattle.asm_parse.specs.declared.statement.Part.{Part}
use Rattle.asm_parse.specs.declared.statement.Statement.{Statement}
use Rattle.asm_parse.specs.Lines.{lines_of, on_line, line_of, statements_from, statements_of, AreRising}

-- the statements rise, from a line on
abbrev RiseFrom : ℕ → List Statement → Type 0
RiseFrom number ss = All (λ s. number ≤ s.line) ss × AreRising ss

rise_cons : (number : ℕ) (body : Body) (ss : List Statement) → RiseFrom number ss → RiseFrom number (on_line number body ∷ ss)
rise_cons number body ss rest = (above, rising) where
  above : All (λ s. number ≤ s.line) (on_line number body ∷ ss)
  above zero d lt = omega arith
  above (suc k) d lt = rest.0 k d (omega (arith, lt))

  rising : AreRising (on_line number body ∷ ss)
  rising zero zero d le lt = omega arith
  rising zero (suc j) d le lt = rest.0 j d (omega (arith, lt))
  rising (suc i) zero d le lt = absurd (omega (arith, le))
  rising (suc i) (suc j) d le lt = rest.1 i j d (omega (arith, le)) (omega (arith, lt))

rise_before : (number : ℕ) (bodies : List Body) (ss : List Statement) → RiseFrom number ss
    → RiseFrom number (map (on_line number) bodies ++ ss)
rise_before number [] ss rest = rest
rise_before number (body ∷ bodies) ss rest = rise_cons number body (map (on_line number) bodies ++ ss) (rise_before number bodies ss rest)

rise_from : (part : Part) (number : ℕ) (lines : List (List ℕ)) → IfOk (statements_from part (enumerate_from number lines)) (RiseFrom number)
unfolding statements_from
rise_from part number [] = (λ k d lt. absurd (omega (arith, lt)), λ i j d le lt. absurd (omega (arith, lt)))
rise_from part number (line ∷ lines) =
    then_holds (at_line number (line_of part line)) _ (RiseFrom number) (λ here.
    if_holds (statements_from here.1 (enumerate_from (number + 1) lines)) _ (RiseFrom (number + 1)) (RiseFrom number)
    (rise_from here.1 (number + 1) lines) (λ others rise.
    rise_before number here.0 others (λ k d lt. omega (arith, rise.0 k d lt), rise.1)))

pub rise_in_text : (text : List ℕ) → IfOk (statements_of text) (RiseFrom 1)
rise_in_text text = rise_from _ 1 (lines_of text)
