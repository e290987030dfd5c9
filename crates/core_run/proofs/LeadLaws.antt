-- Calls that lead from one state to another.
use Rattle.std.proofs.Common.{List, [], ◌∷◌, ◌++◌, ap, subst}
use Rattle.mem_port.specs.Calls.{Call, Lead}

-- Calls behind others lead on from where these have led.
pub lead-append : {M : Type 0} (makes : Call → M → M → Type 0) (first second : List Call) (old mid new : M) → Lead makes first old mid
    → Lead makes second mid new → Lead makes (first ++ second) old new
lead-append {M} makes [] second old mid new same h = subst (λ (m : M). Lead makes second m new) same h
lead-append makes (call ∷ first) second old mid new f h = (f.0, (f.1.0, lead-append makes first second f.0 mid new f.1.1 h))

-- Calls on something that holds a memory are calls on that memory.
pub lead-along : {S M : Type 0} (makes : Call → S → S → Type 0) (does : Call → M → M → Type 0) (held : S → M)
    → ((call : Call) (s t : S) → makes call s t → does call (held s) (held t))
    → (calls : List Call) (old new : S) → Lead makes calls old new → Lead does calls (held old) (held new)
lead-along makes does held each [] old new same = ap held same
lead-along makes does held each (call ∷ calls) old new h =
    (held h.0, (each call old h.0 h.1.0, lead-along makes does held each calls h.0 new h.1.1))
