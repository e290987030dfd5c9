-- A pass, one statement after the other.
use Rattle.std.proofs.Common.{◌≡◌, ℕ, ◌+◌, ◌<◌, ◌≤◌, List, length, take, drop, get_or, Option, Some, None, refl}
use Rattle.std.proofs.Math.ListN.{drop_of_length-le}
use Rattle.std_laws.proofs.ListLaws.{take_more_read, drop_more_read}
use Rattle.kmp_base.specs.declared.fault.FaultAt.{FaultAt}
use Rattle.kmp_base.specs.declared.fault.FaultAt.TheVariants as located
use Rattle.asm_token.specs.declared.fault.AsmCause.{AsmCause}
use Rattle.asm_parse.specs.declared.statement.Statement.{Statement}
use Rattle.asm_layout.specs.Passes.{FailsBy, first_fault, at_line}

-- a statement without a fault is passed over
pub test_goes_on : (test : List Statement → Statement → Option AsmCause) (i : ℕ) (ss : List Statement) (s : Statement) → i < length ss
    → s ≡ get_or ss i s
    → test (take i ss) s ≡ None → first_fault test (take i ss) (drop i ss) ≡ first_fault test (take (i + 1) ss) (drop (i + 1) ss)
unfolding first_fault
test_goes_on test i ss s lt is passes = rw (take_more_read ss i s lt is, drop_more_read ss i s lt is, passes) refl

-- a statement with a fault answers
pub test_fails : (test : List Statement → Statement → Option AsmCause) (i : ℕ) (ss : List Statement) (s : Statement) (fault : AsmCause × ℕ)
    → i < length ss → s ≡ get_or ss i s
    → at_line s.line (test (take i ss) s) ≡ Some fault → first_fault test (take i ss) (drop i ss) ≡ Some fault
unfolding first_fault
test_fails test i ss s fault lt is fails = rw (drop_more_read ss i s lt is, fails) refl

-- so does one that fails, unless memory ran out
pub error_fails : (test : List Statement → Statement → Option AsmCause) (i : ℕ) (ss : List Statement) (s : Statement)
    (error : FaultAt AsmCause)
    → i < length ss → s ≡ get_or ss i s
    → FailsBy (at_line s.line (test (take i ss) s)) error → FailsBy (first_fault test (take i ss) (drop i ss)) error
error_fails test i ss s located.Memory lt is fails = tt
error_fails test i ss s (located.At cause line) lt is fails = test_fails test i ss s (cause, line) lt is fails

-- no fault is found where no statement is left
pub tests_done : (test : List Statement → Statement → Option AsmCause) (i : ℕ) (ss : List Statement) → length ss ≤ i
    → first_fault test (take i ss) (drop i ss) ≡ None
unfolding first_fault
tests_done test i ss le = rw (drop_of_length-le ss le) refl
