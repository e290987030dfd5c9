-- Readings one after another: a step and what follows it, and values that a loop reads one by one.
use Rattle.std.proofs.Common.{◌≡◌, List, [], ◌++◌, Result, Ok, Err, refl, sym, ap, subst, ◌∙◌, append_assoc, ◌⊎◌, inl, inr}
use Rattle.std.specs.Prelude.{IfOk, MatchResult}
use Rattle.std.proofs.lemmas.List.{append-nil}
use Rattle.kmp_base.specs.declared.fault.Fault.{Fault}
use Rattle.kmp_base.specs.declared.fault.Fault.TheVariants.{Memory, Cause}
use Rattle.kmp_base.specs.Bind.{◌>>=◌}
use Rattle.kmp_base.specs.Gives.{FailsAs, GivesAs}

-- ---- a step, and what follows it

-- where a value is read at last, the first step has one
pub bind_ok : {A B E : Type 0} (read : Result A E) (next : A → Result B E) (y : B) → (read >>= next) ≡ Ok y
    → (x : A) × (read ≡ Ok x) × (next x ≡ Ok y)
bind_ok (Ok x) next y e = (x, refl, e)
bind_ok (Err d) next y e = absurd cc

-- a fault is the first step's, or that of what follows its value
pub bind_err : {A B E : Type 0} (read : Result A E) (next : A → Result B E) (d : E) → (read >>= next) ≡ Err d
    → (read ≡ Err d) ⊎ ((x : A) × (read ≡ Ok x) × (next x ≡ Err d))
bind_err (Ok x) next d e = inr (x, refl, e)
bind_err (Err other) next d e = inl cc

-- what holds of each thing that may be read next holds of the whole
pub then_holds : {A B E : Type 0} (read : Result A E) (next : A → Result B E) (P : B → Type 0) → ((x : A) → IfOk (next x) P)
    → IfOk (read >>= next) P
then_holds (Ok x) next P holds = holds x
then_holds (Err e) next P holds = tt

-- the same, where something is known of the first value
pub if_holds : {A B E : Type 0} (read : Result A E) (next : A → Result B E) (P : A → Type 0) (Q : B → Type 0) → IfOk read P
    → ((x : A) → P x → IfOk (next x) Q) → IfOk (read >>= next) Q
if_holds (Ok x) next P Q known holds = holds x known
if_holds (Err e) next P Q known holds = tt

-- the same, where something is known of the faults too
pub match_holds : {A B E : Type 0} (read : Result A E) (next : A → Result B E) (P : A → Type 0) (Q : B → Type 0) (Fault : E → Type 0)
    → MatchResult read P Fault → ((x : A) → P x → MatchResult (next x) Q Fault) → MatchResult (read >>= next) Q Fault
match_holds (Ok x) next P Q Fault known holds = holds x known
match_holds (Err e) next P Q Fault known holds = known

-- ---- what a function answers

-- a fault of the first step is one of the whole
pub fails_then : {A B E C : Type 0} (view : E → C) (fault : Fault E) (read : Result A C) (next : A → Result B C)
    → FailsAs view fault read → FailsAs view fault (read >>= next)
fails_then view Memory read next fails = tt
fails_then view (Cause cause) read next fails = ap (λ r. r >>= next) fails

-- what the exit of a `?` returns
pub gives_fault : {X Y E C : Type 0} (view : X → Y) (view_cause : E → C) (result : Result X (Fault E)) (read : Result Y C) (fault : Fault E)
    → (x : Fault E) × (result ≡ Err x) × (x ≡ fault) → FailsAs view_cause fault read → GivesAs view view_cause result read
gives_fault view view_cause result read fault exit fails =
    subst (λ r. GivesAs view view_cause r read) (sym (exit.1 ∙ ap (λ f. Err f) exit.2)) fails

-- ---- values that are read one by one

-- the values that were read before, and those that are still read
abbrev pub with_front : {A E : Type 0} → List A → Result (List A) E → Result (List A) E
with_front front read = read >>= λ others. Ok (front ++ others)

pub front_grows : {A E : Type 0} (front here : List A) (read : Result (List A) E)
    → with_front front (read >>= λ others. Ok (here ++ others)) ≡ with_front (front ++ here) read
front_grows front here (Ok others) = ap Ok (sym (append_assoc front here others))
front_grows front here (Err e) = refl

pub all_read : {A E : Type 0} (front : List A) (total : Result (List A) E) → with_front front (Ok []) ≡ total → total ≡ Ok front
all_read front total so_far = sym so_far ∙ ap Ok (append-nil front)

-- the same, where what is left goes along
abbrev pub with_front_and_rest : {A R E : Type 0} → List A → Result (List A × R) E → Result (List A × R) E
with_front_and_rest front read = read >>= λ others. Ok (front ++ others.0, others.1)

pub none_in_front : {A R E : Type 0} (front : List A) (read : Result (List A × R) E) → front ≡ [] → with_front_and_rest front read ≡ read
none_in_front front (Ok others) none = ap (λ values. Ok (values ++ others.0, others.1)) none
none_in_front front (Err e) none = refl

pub all_read_and_rest : {A R E : Type 0} (front : List A) (rest : R) (total : Result (List A × R) E)
    → with_front_and_rest front (Ok ([], rest)) ≡ total → total ≡ Ok (front, rest)
all_read_and_rest front rest total so_far = sym so_far ∙ ap (λ values. Ok (values, rest)) (append-nil front)

-- a first step and then more: what the first one adds stands in front of what the others read
abbrev pub first_and_more : {P A R E : Type 0} → (P → List A) → Result P E → (P → Result (List A × R) E) → Result (List A × R) E
first_and_more adds read more = read >>= λ p. more p >>= λ others. Ok (adds p ++ others.0, others.1)

front_and_rest_grows : {A R E : Type 0} (front here : List A) (read : Result (List A × R) E)
    → with_front_and_rest (front ++ here) read ≡ with_front_and_rest front (read >>= λ others. Ok (here ++ others.0, others.1))
front_and_rest_grows front here (Ok others) = ap (λ values. Ok (values, others.1)) (append_assoc front here others.0)
front_and_rest_grows front here (Err e) = refl

-- where the first step has a value, the others are still read
pub first_is_read : {P A R E : Type 0} (adds : P → List A) (read : Result P E) (more : P → Result (List A × R) E)
    (all total : Result (List A × R) E) (front : List A) (p : P)
    → all ≡ first_and_more adds read more → read ≡ Ok p → with_front_and_rest front all ≡ total
    → with_front_and_rest (front ++ adds p) (more p) ≡ total
first_is_read adds read more all total front p is e so_far =
    front_and_rest_grows front (adds p) (more p)
    ∙ ap (with_front_and_rest front) (ap (λ r. first_and_more adds r more) (sym e) ∙ sym is) ∙ so_far

-- where it has a fault, this is that of the whole
pub first_fails : {P A R E C : Type 0} (view : E → C) (fault : Fault E) (adds : P → List A) (read : Result P C)
    (more : P → Result (List A × R) C) (all total : Result (List A × R) C) (front : List A)
    → all ≡ first_and_more adds read more → FailsAs view fault read → with_front_and_rest front all ≡ total → FailsAs view fault total
first_fails view fault adds read more all total front is fails so_far =
    subst (FailsAs view fault) so_far
    (fails_then view fault all _ (subst (FailsAs view fault) (sym is) (fails_then view fault read _ fails)))
