-- What holds of a layout without a fault.
use Rattle.std.proofs.Common.{◌*◌, ◌≡◌, ℕ, ◌+◌, ◌<◌, ◌≤◌, Bool, true, false, ◌||◌, List, [], ◌∷◌, ◌++◌, Option, Some, None, refl}
use Rattle.std.proofs.Common.{append_assoc, arith, inl, inr}
use Rattle.std.specs.Prelude.{nat_lt, ◌==◌, min}
use Rattle.std.proofs.lemmas.Bool.{and_cases, or_parts, ltb-false, eqb-false}
use Rattle.std.proofs.lemmas.List.{append-nil}
use Rattle.asm_token.specs.declared.fault.AsmCause.{AsmCause}
use Rattle.asm_token.specs.declared.fault.AsmCause.TheVariants.{NoCode, TooMuch, Range}
use Rattle.asm_parse.specs.declared.statement.Body.{Body}
use Rattle.asm_parse.specs.declared.statement.Body.TheVariants.{DataAt}
use Rattle.asm_parse.specs.declared.statement.Statement.{Statement}
use Rattle.asm_layout.specs.declared.place.Place.{Place}
use Rattle.asm_layout.specs.Places.{code_size, data_size, data_moved, code_behind, code_end, place_behind}
use Rattle.asm_layout.specs.Passes.{or_else, at_line, fault_if, first_fault, code_pass, twice_test, goes_past, room_fault, room_test}
use Rattle.asm_layout.specs.Passes.{layout_fault}
use Rattle.asm_layout.proofs.PlacesLaws.{no_code, code_more}

or_else_none_parts : {A : Type 0} (a b : Option A) → or_else a b ≡ None → (a ≡ None) × (b ≡ None)
or_else_none_parts None b none = (refl, none)
or_else_none_parts (Some x) b none = absurd cc

no_cause : (line : ℕ) (cause : Option AsmCause) → at_line line cause ≡ None → cause ≡ None
no_cause line None none = refl
no_cause line (Some cause) none = absurd cc

right : (wrong : Bool) (cause : AsmCause) → fault_if wrong cause ≡ None → wrong ≡ false
right true cause none = absurd cc
right false cause none = refl

-- A pass without a fault finds none in a statement, and none behind it.
pub first_none : (test : List Statement → Statement → Option AsmCause) (before : List Statement) (s : Statement) (ss : List Statement)
    → first_fault test before (s ∷ ss) ≡ None → (test before s ≡ None) × (first_fault test (before ++ s ∷ []) ss ≡ None)
unfolding first_fault
first_none test before s ss none =
    let each = or_else_none_parts (at_line s.line (test before s)) (first_fault test (before ++ s ∷ []) ss) none in
    (no_cause s.line (test before s) each.0, each.1)

-- the passes of a layout without a fault
passes : (memory : ℕ) (ss : List Statement) → layout_fault memory ss ≡ None
    → (code_pass ss ≡ None) × (first_fault (room_test memory (code_end ss)) [] ss ≡ None)
unfolding layout_fault
passes memory ss none =
    let code = or_else_none_parts (code_pass ss) _ none in
    let labels = or_else_none_parts (first_fault (twice_test (code_end ss)) [] ss) _ code.1 in
    let room = or_else_none_parts (first_fault (room_test memory (code_end ss)) [] ss) _ labels.1 in
    (code.0, room.0)

-- There is code.
pub some_code : (memory : ℕ) (ss : List Statement) → layout_fault memory ss ≡ None → 0 < code_behind ss
some_code memory ss none =
    let zero : (code_behind ss == 0) ≡ false =
    right (code_behind ss == 0) NoCode (no_cause 0 (fault_if (code_behind ss == 0) NoCode) (passes memory ss none).0) in
    omega (arith, eqb-false (code_behind ss) 0 zero)

-- Each statement has room behind those before it.
pub room_passes : (memory : ℕ) (ss : List Statement) → layout_fault memory ss ≡ None
    → first_fault (room_test memory (code_end ss)) [] ss ≡ None
room_passes memory ss none = (passes memory ss none).1

-- bytes that go past no limit end within it
within : (limit end size : ℕ) → end ≤ limit → goes_past limit end size ≡ false → end + size ≤ limit
within limit end size le past = elim (and_cases (nat_lt 0 size) (nat_lt limit (end + size)) past) [
  | inl none ↦ omega (arith, le, ltb-false 0 size none)
  | inr fits ↦ ltb-false limit (end + size) fits
]

-- neither the code of a statement nor its data goes past its limit
none_past : (memory : ℕ) (place : Place) (body : Body)
    → fault_if (goes_past (min memory (4 * 65536)) place.code_end (code_size body) || goes_past memory place.data_end (data_size body))
    TooMuch ≡ None
    → (goes_past (min memory (4 * 65536)) place.code_end (code_size body) ≡ false)
    × (goes_past memory place.data_end (data_size body) ≡ false)
none_past memory place body none = or_parts _ _ (right _ TooMuch none)

-- a statement's code ends within the limit where that before it does
step_fits : (memory : ℕ) (place : Place) (body : Body) → place.code_end ≤ min memory (4 * 65536) → room_fault memory place body ≡ None
    → place.code_end + code_size body ≤ min memory (4 * 65536)
step_fits memory place (DataAt start) le none = omega (arith, le)
step_fits memory place body le none =
    within (min memory (4 * 65536)) place.code_end (code_size body) le (none_past memory place body none).0

-- where a segment with an address starts
pub start_fits : (memory : ℕ) (place : Place) (start : ℕ) → room_fault memory place (DataAt start) ≡ None → (place.data_end ≤ start)
    × (start ≤ memory)
start_fits memory place start none =
    let each = or_parts (nat_lt start place.data_end) (nat_lt memory start) (right _ Range none) in
    (ltb-false start place.data_end each.0, ltb-false memory start each.1)

-- the data behind a statement lies in the memory
pub data_fits : (memory : ℕ) (place : Place) (body : Body) → room_fault memory place body ≡ None → place.data_end ≤ memory
    → data_moved place.data_end body ≤ memory
data_fits memory place (DataAt start) none le = (start_fits memory place start none).1
data_fits memory place body none le = within memory place.data_end (data_size body) le (none_past memory place body none).1

code_fits_from : (memory end : ℕ) (before ss : List Statement) → code_behind before ≤ min memory (4 * 65536)
    → first_fault (room_test memory end) before ss ≡ None → code_behind (before ++ ss) ≤ min memory (4 * 65536)
unfolding first_fault
code_fits_from memory end before [] le none = rw (append-nil before) le
code_fits_from memory end before (s ∷ ss) le none =
    let room = first_none (room_test memory end) before s ss none in
    let fits = step_fits memory (place_behind end before) s.body le room.0 in
    rw (← append_assoc before (s ∷ []) ss) (code_fits_from memory end (before ++ s ∷ []) ss (rw (code_more before s) fits) room.1)

-- The code lies in the memory, and has at most 65,536 words.
pub code_fits : (memory : ℕ) (ss : List Statement) → layout_fault memory ss ≡ None → (code_behind ss ≤ memory) × (code_behind ss ≤ 262144)
code_fits memory ss none =
    let fits : code_behind ss ≤ min memory (4 * 65536) =
    code_fits_from memory (code_end ss) [] ss (rw (← no_code) (omega arith)) (room_passes memory ss none) in
    (omega (arith, fits), omega (arith, fits))
