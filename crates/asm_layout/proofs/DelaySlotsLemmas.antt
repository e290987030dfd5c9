-- The lines of statements that a delay slot splits, one statement after the other.
use Rattle.std.proofs.Common.{◌≡◌, ℕ, Bool, true, false, cond, ◌==◌, ◌&&◌, List, [], ◌∷◌, ◌++◌, map, drop, refl, sym, ap, ◌∙◌}
use Rattle.std.specs.Prelude.{filter, zip}
use Rattle.std.proofs.lemmas.Bool.{eqb-true}
use Rattle.asm_parse.specs.declared.statement.Body.{Body}
use Rattle.asm_parse.specs.declared.statement.Statement.{Statement}
use Rattle.asm_layout.specs.Places.{code_size}
use Rattle.asm_layout.specs.DelaySlots.{has_delay_slot, with_code, is_split, split_lines}

-- whether the word of code behind a statement stands in a delay slot, where that before it does or doesn't
abbrev pub delay_slot_behind : Bool → Body → Bool
delay_slot_behind in_delay_slot body = cond (code_size body == 0) in_delay_slot (has_delay_slot body)

-- the line of a statement, where it is split
abbrev pub split_here : Bool → Statement → List ℕ
split_here in_delay_slot s = cond (in_delay_slot && (code_size s.body == 8)) (s.line ∷ []) []

-- the lines of those that are left
abbrev pub split_from : Bool → List Statement → List ℕ
split_from in_delay_slot [] = []
split_from in_delay_slot (s ∷ ss) = split_here in_delay_slot s ++ split_from (delay_slot_behind in_delay_slot s.body) ss

-- A statement without code is passed over.
without_code : (in_delay_slot : Bool) (s : Statement) (ss : List Statement) → (code_size s.body == 0) ≡ true
    → split_from in_delay_slot (s ∷ ss) ≡ split_from in_delay_slot ss
without_code true s ss none = rw (eqb-true (code_size s.body) 0 none) refl
without_code false s ss none = rw (eqb-true (code_size s.body) 0 none) refl

-- Behind one with code its own slot counts.
own_delay_slot : (in_delay_slot : Bool) (s : Statement) → (code_size s.body == 0) ≡ false
    → delay_slot_behind in_delay_slot s.body ≡ has_delay_slot s.body
own_delay_slot in_delay_slot s some = rw some refl

skipped : (s : Statement) (ss : List Statement) → (code_size s.body == 0) ≡ true → with_code (s ∷ ss) ≡ with_code ss
skipped s ss none = rw none refl

kept : (s : Statement) (ss : List Statement) → (code_size s.body == 0) ≡ false → with_code (s ∷ ss) ≡ s ∷ with_code ss
kept s ss some = rw some refl

-- the lines of pairs that are split
abbrev lines_of : List (Statement × Statement) → List ℕ
lines_of pairs = map (λ (pair : Statement × Statement). pair.1.line) (filter is_split pairs)

first_pair : (p s : Statement) (pairs : List (Statement × Statement)) (split : Bool) → is_split (p, s) ≡ split
    → lines_of ((p, s) ∷ pairs) ≡ split_here (has_delay_slot p.body) s ++ lines_of pairs
first_pair p s pairs true is = rw is refl
first_pair p s pairs false is = rw is refl

behind_by : (p s : Statement) (ss : List Statement)
    → lines_of (zip (p ∷ with_code ss) (with_code ss)) ≡ split_from (has_delay_slot p.body) ss
    → lines_of (zip (s ∷ with_code ss) (with_code ss)) ≡ split_from (has_delay_slot s.body) ss
    → (none : Bool) → (code_size s.body == 0) ≡ none
    → lines_of (zip (p ∷ with_code (s ∷ ss)) (with_code (s ∷ ss))) ≡ split_from (has_delay_slot p.body) (s ∷ ss)
behind_by p s ss passed here true none =
    ap (λ (code : List Statement). lines_of (zip (p ∷ code) code)) (skipped s ss none) ∙ passed
    ∙ sym (without_code (has_delay_slot p.body) s ss none)
behind_by p s ss passed here false some =
    ap (λ (code : List Statement). lines_of (zip (p ∷ code) code)) (kept s ss some)
    ∙ first_pair p s (zip (s ∷ with_code ss) (with_code ss)) (is_split (p, s)) refl
    ∙ ap (λ (lines : List ℕ). split_here (has_delay_slot p.body) s ++ lines) here
    ∙ ap (λ (slot : Bool). split_here (has_delay_slot p.body) s ++ split_from slot ss) (sym (own_delay_slot (has_delay_slot p.body) s some))

-- behind a statement with code
behind : (p : Statement) (ss : List Statement)
    → lines_of (zip (p ∷ with_code ss) (with_code ss)) ≡ split_from (has_delay_slot p.body) ss
behind p [] = refl
behind p (s ∷ ss) = behind_by p s ss (behind p ss) (behind s ss) (code_size s.body == 0) refl

from_start_by : (s : Statement) (ss : List Statement) → split_lines ss ≡ split_from false ss
    → (none : Bool) → (code_size s.body == 0) ≡ none → split_lines (s ∷ ss) ≡ split_from false (s ∷ ss)
from_start_by s ss others true none =
    ap (λ (code : List Statement). lines_of (zip code (drop 1 code))) (skipped s ss none) ∙ others
    ∙ sym (without_code false s ss none)
from_start_by s ss others false some =
    ap (λ (code : List Statement). lines_of (zip code (drop 1 code))) (kept s ss some) ∙ behind s ss
    ∙ ap (λ (slot : Bool). split_from slot ss) (sym (own_delay_slot false s some))

pub from_start : (ss : List Statement) → split_lines ss ≡ split_from false ss
from_start [] = refl
from_start (s ∷ ss) = from_start_by s ss (from_start ss) (code_size s.body == 0) refl
