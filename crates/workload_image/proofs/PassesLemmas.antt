-- A layout finds no fault: where each statement has room, no label stands twice, and each label that is named stands.
use Rattle.std.proofs.Common.{◌≡◌, ℕ, ◌*◌, ◌<◌, ◌≤◌, Bool, true, false, List, [], ◌∷◌, ◌++◌, map, Option, Some, None, inl, inr, refl}
use Rattle.std.proofs.Common.{sym, ap, ◌∙◌, subst, arith}
use Rattle.std.specs.Prelude.{◌==◌, ◌||◌, if◌then◌else◌, is_some, flat_map}
use Rattle.std.specs.List.{AllByRecursion, list_any}
use Rattle.std.specs.Str.{bytes_eq}
use Rattle.std.proofs.lemmas.Bool.{cases_Bool}
use Rattle.std.proofs.lemmas.Bool.Decides.{nat_tests}
use Rattle.std.proofs.lemmas.List.{append-nil, map-append}
use Rattle.std.proofs.lemmas.List.Concat.{flat_map-append}
use Rattle.std_laws.proofs.ListLaws.{AllByRecursion-append, AllByRecursion-parts}
use Rattle.kmp_base.specs.Names.{named}
use Rattle.asm_token.specs.declared.fault.AsmCause.{AsmCause}
use Rattle.asm_parse.specs.declared.statement.Body.{Body}
use Rattle.asm_parse.specs.declared.statement.Body.TheVariants.{Label, Word, BranchTo, JumpTo, Load}
use Rattle.asm_parse.specs.declared.statement.Part.{Part}
use Rattle.asm_parse.specs.declared.statement.Part.TheVariants as parts
use Rattle.asm_parse.specs.declared.statement.Statement.{Statement}
use Rattle.asm_parse.specs.declared.statement.Value.{Value}
use Rattle.asm_parse.specs.declared.statement.Value.TheVariants as values
use Rattle.asm_layout.specs.declared.place.Place.{Place}
use Rattle.asm_layout.specs.Places.{code_behind, code_end, place_behind, address_at, place_moved}
use Rattle.asm_layout.specs.Labels.{Addresses, label_at, labels_from, labels_of}
use Rattle.asm_layout.specs.Passes.{first_fault, twice_fault, twice_test, room_fault, room_test, branch_reaches, jump_reaches, label_fault}
use Rattle.asm_layout.specs.Passes.{value_fault, operand_fault, operand_test, layout_fault}
use Rattle.asm_layout.proofs.PlacesLaws.{place_more}

abbrev pub bodies_of : List Statement → List Body
bodies_of ss = map (λ s. s.body) ss

-- a pass goes on behind a statement without a fault
pass_goes_on : (test : List Statement → Statement → Option AsmCause) (before : List Statement) (s : Statement) (ss : List Statement)
    → test before s ≡ None → first_fault test (before ++ s ∷ []) ss ≡ None → first_fault test before (s ∷ ss) ≡ None
unfolding first_fault
pass_goes_on test before s ss here others = rw (here, others) refl

-- ---- room

-- Each of the statements behind a place has room, and stands within the memory.
abbrev pub HaveRoom : ℕ → Place → List Body → Type 0
HaveRoom memory place [] = Unit {0}
HaveRoom memory place (body ∷ bodies) =
    (room_fault memory place body ≡ None) × (place.code_end ≤ memory) × (place.data_end ≤ memory)
    × HaveRoom memory (place_moved place body) bodies

room_behind : (memory end : ℕ) (before : List Statement) (s : Statement) (bodies : List Body)
    → HaveRoom memory (place_moved (place_behind end before) s.body) bodies → HaveRoom memory (place_behind end (before ++ s ∷ [])) bodies
room_behind memory end before s bodies room =
    subst (λ (place : Place). HaveRoom memory place bodies) (sym (place_more end before s)) room

room_pass : (memory end : ℕ) (before ss : List Statement) → HaveRoom memory (place_behind end before) (bodies_of ss)
    → first_fault (room_test memory end) before ss ≡ None
unfolding first_fault
room_pass memory end before [] room = refl
room_pass memory end before (s ∷ ss) room =
    pass_goes_on (room_test memory end) before s ss room.0
    (room_pass memory end (before ++ s ∷ []) ss (room_behind memory end before s (bodies_of ss) room.3))

-- ---- labels

abbrev pub labels_in : Body → List (List ℕ)
labels_in (Label name) = name ∷ []
labels_in other = []

-- the labels of statements, in their order
abbrev pub labels_among : List Body → List (List ℕ)
labels_among bodies = flat_map labels_in bodies

abbrev names : Addresses → List (List ℕ)
names known = map (λ label. label.0) known

abbrev pub is_among : List (List ℕ) → List ℕ → Bool
is_among names name = list_any (λ other. bytes_eq other name) names

-- Each of some names is none of those before it, which are others' and theirs.
abbrev pub AreNew : List (List ℕ) → List (List ℕ) → Type 0
AreNew before [] = Unit {0}
AreNew before (name ∷ names) = (is_among before name ≡ false) × AreNew (before ++ name ∷ []) names

label_name : (address : ℕ) (body : Body) → names (label_at address body) ≡ labels_in body
label_name address (Label name) = refl
label_name address other = refl

names_are : (end : ℕ) (before ss : List Statement) → names (labels_from end before ss) ≡ labels_among (bodies_of ss)
unfolding labels_from
names_are end before [] = refl
names_are end before (s ∷ ss) =
    let address = address_at (place_behind end before) in
    let others = labels_from end (before ++ s ∷ []) ss in
    map-append (λ (label : List ℕ × ℕ). label.0) (label_at address s.body) others
    ∙ ap (λ (both : List (List ℕ) × List (List ℕ)). both.0 ++ both.1)
    (λ i. (label_name address s.body i, names_are end (before ++ s ∷ []) ss i))

found : (test : Bool) (address : ℕ) (others : Option ℕ) (among : Bool) → is_some others ≡ among
    → is_some (if test then Some address else others) ≡ (test || among)
found true address others among same = refl
found false address others among same = same

-- a label has an address where it is among the names
named_among : (known : Addresses) (name : List ℕ) → is_some (named known name) ≡ is_among (names known) name
named_among [] name = refl
named_among (label ∷ known) name =
    found (bytes_eq label.0 name) label.1 (named known name) (is_among (names known) name) (named_among known name)

twice_here : (known : Addresses) (body : Body) (rest : List (List ℕ)) → AreNew (names known) (labels_in body ++ rest)
    → (twice_fault known body ≡ None) × AreNew (names known ++ labels_in body) rest
twice_here known (Label name) rest new = (rw (named_among known name, new.0) refl, new.1)
twice_here known other rest new = (refl, rw (append-nil (names known)) new)

labels_behind : (before : List Statement) (s : Statement)
    → labels_among (bodies_of (before ++ s ∷ [])) ≡ labels_among (bodies_of before) ++ labels_in s.body
labels_behind before s =
    ap labels_among (map-append (λ (t : Statement). t.body) before (s ∷ []))
    ∙ flat_map-append labels_in (bodies_of before) (s.body ∷ [])
    ∙ ap (λ (own : List (List ℕ)). labels_among (bodies_of before) ++ own) (append-nil (labels_in s.body))

twice_pass : (end : ℕ) (before ss : List Statement) → AreNew (labels_among (bodies_of before)) (labels_among (bodies_of ss))
    → first_fault (twice_test end) before ss ≡ None
unfolding first_fault
twice_pass end before [] new = refl
twice_pass end before (s ∷ ss) new =
    let known = labels_from end [] before in
    let rest = labels_among (bodies_of ss) in
    let same = names_are end [] before in
    let here = twice_here known s.body rest
    (subst (λ (ns : List (List ℕ)). AreNew ns (labels_in s.body ++ rest)) (sym same) new) in
    let more : names known ++ labels_in s.body ≡ labels_among (bodies_of (before ++ s ∷ [])) =
    ap (λ (ns : List (List ℕ)). ns ++ labels_in s.body) same ∙ sym (labels_behind before s) in
    pass_goes_on (twice_test end) before s ss here.0
    (twice_pass end (before ++ s ∷ []) ss (subst (λ (ns : List (List ℕ)). AreNew ns rest) more here.1))

-- ---- addresses

-- each label lies within the memory
abbrev AreWithin : ℕ → Addresses → Type 0
AreWithin memory known = AllByRecursion (λ label. label.1 ≤ memory) known

address_within : (part : Part) (memory code data_end : ℕ) → code ≤ memory → data_end ≤ memory
    → address_at (record { part = part; code_end = code; data_end = data_end }) ≤ memory
address_within parts.Text memory code data_end first second = first
address_within parts.Data memory code data_end first second = second

label_within : (memory : ℕ) (place : Place) (body : Body) → place.code_end ≤ memory → place.data_end ≤ memory
    → AreWithin memory (label_at (address_at place) body)
label_within memory place (Label name) first second =
    (address_within place.part memory place.code_end place.data_end first second, tt)
label_within memory place other first second = tt

labels_within : (memory end : ℕ) (before ss : List Statement) → HaveRoom memory (place_behind end before) (bodies_of ss)
    → AreWithin memory (labels_from end before ss)
unfolding labels_from
labels_within memory end before [] room = tt
labels_within memory end before (s ∷ ss) room =
    let place = place_behind end before in
    AllByRecursion-append (λ (label : List ℕ × ℕ). label.1 ≤ memory) (label_at (address_at place) s.body)
    (labels_from end (before ++ s ∷ []) ss)
    (label_within memory place s.body room.1 room.2)
    (labels_within memory end (before ++ s ∷ []) ss (room_behind memory end before s (bodies_of ss) room.3))

-- ---- operands

named_within : (memory : ℕ) (known : Addresses) (name : List ℕ) → AreWithin memory known → is_among (names known) name ≡ true
    → (address : ℕ) × (address ≤ memory) × (named known name ≡ Some address)
named_within memory [] name within among = absurd cc
named_within memory (label ∷ known) name within among = elim (cases_Bool (bytes_eq label.0 name)) [
  | inl is ↦ (label.1, within.0, rw is refl)
  | inr other ↦ (let behind = named_within memory known name within.1 (rw other at among) in (behind.0, behind.1, rw other behind.2))
]

-- a label that stands serves where each address within the memory does
label_serves : (memory : ℕ) (known : Addresses) (serves : ℕ → Bool) (name : List ℕ)
    → ((address : ℕ) → address ≤ memory → serves address ≡ true) → AreWithin memory known → is_among (names known) name ≡ true
    → label_fault known serves name ≡ None
label_serves memory known serves name each within among =
    let it = named_within memory known name within among in
    rw (it.2, label_fault, each it.0 it.1) refl

-- in 65,536 bytes a branch reaches each address
branch_serves : (here address : ℕ) → here ≤ 65536 → address ≤ 65536 → branch_reaches here address ≡ true
branch_serves here address first second = grind (arith, nat_tests)

jump_serves : (address : ℕ) → address ≤ 65536 → jump_reaches address ≡ true
jump_serves address within = grind (arith, nat_tests)

abbrev pub value_targets : Value → List (List ℕ)
value_targets (values.Number n) = []
value_targets (values.Of name) = name ∷ []

-- the labels that a statement names
abbrev pub targets_in : Body → List (List ℕ)
targets_in (BranchTo instr name) = name ∷ []
targets_in (JumpTo link name) = name ∷ []
targets_in (Word value) = value_targets value
targets_in (Load rt value) = value_targets value
targets_in other = []

abbrev pub targets_among : List Body → List (List ℕ)
targets_among bodies = flat_map targets_in bodies

-- each of some names is among others
abbrev pub AreAmong : List (List ℕ) → List (List ℕ) → Type 0
AreAmong names targets = AllByRecursion (λ name. is_among names name ≡ true) targets

value_passes : (known : Addresses) (value : Value) → AreWithin 65536 known → AreAmong (names known) (value_targets value)
    → value_fault known value ≡ None
value_passes known (values.Number n) within among = refl
value_passes known (values.Of name) within among = label_serves 65536 known (λ _. true) name (λ address le. refl) within among.0

operand_passes : (known : Addresses) (here : ℕ) (body : Body) → here ≤ 65536 → AreWithin 65536 known
    → AreAmong (names known) (targets_in body) → operand_fault known here body ≡ None
operand_passes known here (BranchTo instr name) le within among =
    label_serves 65536 known (branch_reaches here) name (λ address low. branch_serves here address le low) within among.0
operand_passes known here (JumpTo link name) le within among = label_serves 65536 known jump_reaches name jump_serves within among.0
operand_passes known here (Word value) le within among = value_passes known value within among
operand_passes known here (Load rt value) le within among = value_passes known value within among
operand_passes known here other le within among = refl

operand_pass : (end : ℕ) (known : Addresses) (before ss : List Statement) → HaveRoom 65536 (place_behind end before) (bodies_of ss)
    → AreWithin 65536 known → AreAmong (names known) (targets_among (bodies_of ss)) → first_fault (operand_test known) before ss ≡ None
unfolding first_fault
operand_pass end known before [] room within among = refl
operand_pass end known before (s ∷ ss) room within among =
    let each = AllByRecursion-parts (λ (name : List ℕ). is_among (names known) name ≡ true) (targets_in s.body)
    (targets_among (bodies_of ss)) among in
    pass_goes_on (operand_test known) before s ss (operand_passes known (code_behind before) s.body room.1 within each.0)
    (operand_pass end known (before ++ s ∷ []) ss (room_behind 65536 end before s (bodies_of ss) room.3) within each.1)

-- ---- all passes

pub no_fault : (ss : List Statement) → 0 < code_behind ss → HaveRoom 65536 (place_behind (code_end ss) []) (bodies_of ss)
    → AreNew [] (labels_among (bodies_of ss)) → AreAmong (labels_among (bodies_of ss)) (targets_among (bodies_of ss))
    → layout_fault (8 * 8192) ss ≡ None
unfolding layout_fault
no_fault ss some room new among =
    let known = labels_of ss in
    let code : (code_behind ss == 0) ≡ false = grind (arith, nat_tests) in
    let twice = twice_pass (code_end ss) [] ss new in
    let rooms = room_pass 65536 (code_end ss) [] ss room in
    let operands = operand_pass (code_end ss) known [] ss room (labels_within 65536 (code_end ss) [] ss room)
    (subst (λ (ns : List (List ℕ)). AreAmong ns (targets_among (bodies_of ss))) (sym (names_are (code_end ss) [] ss)) among) in
    rw (code, twice, rooms, operands) refl
