-- The statements of a random workload have room, labels of their own, and labels for what they name.
use Rattle.std.proofs.Common.{◌≡◌, ℕ, zero, suc, ◌+◌, ◌*◌, ◌^◌, ◌<◌, ◌≤◌, true, false, List, [], ◌∷◌, ◌++◌, length, None, codes}
use Rattle.std.proofs.Common.{decimal, refl, sym, ap, ◌∙◌, subst, arith, append_assoc}
use Rattle.std.specs.Prelude.{◌%◌, slice_index_or, nat_lt}
use Rattle.std.specs.List.{AllByRecursion, sum_by}
use Rattle.std.specs.Str.{bytes_eq}
use Rattle.std.specs.Str.Parse.{digits_value}
use Rattle.std.proofs.lemmas.Bool.{false_from_ne_true, or_left, or_right}
use Rattle.std.proofs.lemmas.Bool.Decides.{nat_tests}
use Rattle.std.proofs.lemmas.Fmt.{decimal_is_IsNumeral}
use Rattle.std.proofs.lemmas.List.{map-append}
use Rattle.std.proofs.lemmas.List.Concat.{flat_map-append}
use Rattle.std.proofs.lemmas.List.Folds.{list_any-append}
use Rattle.std.proofs.lemmas.List.Sums.{sum_by-cons, sum_by-append}
use Rattle.std.proofs.lemmas.Slice.Eq.{bytes_eq-Decides}
use Rattle.std_laws.proofs.ListLaws.{AllByRecursion-append, AllByRecursion-weaker}
use Rattle.asm_parse.specs.declared.statement.Body.{Body}
use Rattle.asm_parse.specs.declared.statement.Body.TheVariants.{Label, Plain, BranchTo, Load}
use Rattle.asm_parse.specs.declared.statement.Part.TheVariants as parts
use Rattle.asm_parse.specs.declared.statement.Statement.{Statement}
use Rattle.asm_parse.specs.Printing.{on_lines}
use Rattle.asm_layout.specs.declared.place.Place.{Place}
use Rattle.asm_layout.specs.Places.{code_size, code_behind, data_behind, part_behind, code_end, place_behind, place_moved}
use Rattle.asm_layout.specs.Passes.{room_fault, layout_fault}
use Rattle.workload_gen.specs.Source.{words_of}
use Rattle.workload_gen.proofs.SizeLaws.{length-words_of}
use Rattle.workload_image.specs.Drawn.{label_of, bodies_by_kind, block_bodies, bodies_from, head_bodies, front_bodies, tail_statements}
use Rattle.workload_image.specs.Drawn.{drawn_statements}
use Rattle.workload_image.proofs.PassesLemmas.{bodies_of, HaveRoom, labels_in, labels_among, targets_in, targets_among, is_among}
use Rattle.workload_image.proofs.PassesLemmas.{AreNew, AreAmong, no_fault}

abbrev tail_bodies : List Body
tail_bodies = bodies_of (tail_statements 0)

bodies_of-on_lines : (line : ℕ) (bodies : List Body) → bodies_of (on_lines line bodies) ≡ bodies
bodies_of-on_lines line [] = refl
bodies_of-on_lines line (body ∷ bodies) = ap (λ (others : List Body). body ∷ others) (bodies_of-on_lines (line + 1) bodies)

drawn_bodies : (seed size : ℕ) → bodies_of (drawn_statements seed size) ≡ front_bodies seed size ++ tail_bodies
drawn_bodies seed size =
    let front = front_bodies seed size in
    map-append (λ (s : Statement). s.body) (on_lines 1 front) (tail_statements (1 + length front))
    ∙ ap (λ (bodies : List Body). bodies ++ tail_bodies) (bodies_of-on_lines 1 front)

-- ---- room

-- labels and statements with code, which leave the part and the data as they are
abbrev IsOfCode : Body → Type 0
IsOfCode (Label name) = Unit {0}
IsOfCode (Plain instr) = Unit {0}
IsOfCode (BranchTo instr name) = Unit {0}
IsOfCode (Load rt value) = Unit {0}
IsOfCode other = ⊥

abbrev bytes_of : List Body → ℕ
bytes_of bodies = sum_by code_size bodies

code_counted : (ss : List Statement) → code_behind ss ≡ bytes_of (bodies_of ss)
unfolding code_behind
code_counted [] = refl
code_counted (s ∷ ss) =
    sum_by-cons (λ (t : Statement). code_size t.body) s ss ∙ ap (λ n. code_size s.body + n) (code_counted ss)
    ∙ sym (sum_by-cons code_size s.body (bodies_of ss))

-- a place in the text part
abbrev in_text : ℕ → ℕ → Place
in_text code data_end = record { part = parts.Text; code_end = code; data_end = data_end }

same_end : (n : ℕ) → n + 0 ≡ n
same_end n = omega arith

code_moved : (code data_end : ℕ) (body : Body) → IsOfCode body
    → place_moved (in_text code data_end) body ≡ in_text (code + code_size body) data_end
code_moved code data_end (Label name) is = ap (in_text (code + 0)) (same_end data_end)
code_moved code data_end (Plain instr) is = ap (in_text (code + 4)) (same_end data_end)
code_moved code data_end (BranchTo instr name) is = ap (in_text (code + 4)) (same_end data_end)
code_moved code data_end (Load rt value) is = ap (in_text (code + 8)) (same_end data_end)
code_moved code data_end other is = elim is [ ]

code_fits : (code data_end : ℕ) (body : Body) → IsOfCode body → code + code_size body ≤ 65536
    → room_fault 65536 (in_text code data_end) body ≡ None
code_fits code data_end (Label name) is fits = refl
code_fits code data_end (Plain instr) is fits = let within : nat_lt 65536 (code + 4) ≡ false = grind (arith, nat_tests) in rw within refl
code_fits code data_end (BranchTo instr name) is fits =
    let within : nat_lt 65536 (code + 4) ≡ false = grind (arith, nat_tests) in rw within refl
code_fits code data_end (Load rt value) is fits =
    let within : nat_lt 65536 (code + 8) ≡ false = grind (arith, nat_tests) in rw within refl
code_fits code data_end other is fits = elim is [ ]

-- what has room behind statements of code has room behind them and the place before
front_fits : (code data_end : ℕ) (bodies rest : List Body) → AllByRecursion IsOfCode bodies → code + bytes_of bodies ≤ 65536
    → data_end ≤ 65536
    → HaveRoom 65536 (in_text (code + bytes_of bodies) data_end) rest → HaveRoom 65536 (in_text code data_end) (bodies ++ rest)
front_fits code data_end [] rest are fits low room = subst (λ n. HaveRoom 65536 (in_text n data_end) rest) (same_end code) room
front_fits code data_end (body ∷ bodies) rest are fits low room =
    let counted = sum_by-cons code_size body bodies in
    let moved : code + bytes_of (body ∷ bodies) ≡ (code + code_size body) + bytes_of bodies = omega (arith, counted) in
    let others = front_fits (code + code_size body) data_end bodies rest are.1 (omega (arith, counted, fits)) low
    (subst (λ n. HaveRoom 65536 (in_text n data_end) rest) moved room) in (
      code_fits code data_end body are.0 (omega (arith, counted, fits)),
      omega (arith, fits),
      low,
      subst (λ (place : Place). HaveRoom 65536 place (bodies ++ rest)) (sym (code_moved code data_end body are.0)) others,
    )

tail_fits : (code data_end : ℕ) → code + 4 ≤ 65536 → data_end ≤ 32768 → HaveRoom 65536 (in_text code data_end) tail_bodies
tail_fits code data_end fits low =
    let within : nat_lt 65536 (code + 4) ≡ false = grind (arith, nat_tests) in
    let behind : nat_lt 32768 (data_end + 0) ≡ false = grind (arith, nat_tests) in (
      rw within refl,
      omega arith,
      omega arith,
      (rw behind refl, omega arith, omega arith, (refl, omega arith, omega arith, (refl, omega arith, omega arith, tt))),
    )

block_code : (kind number word : ℕ) → AllByRecursion IsOfCode (slice_index_or (bodies_by_kind number word) kind [])
    × (bytes_of (slice_index_or (bodies_by_kind number word) kind []) ≤ 12)
block_code zero number word = ((tt, (tt, tt)), omega arith)
block_code (suc zero) number word = ((tt, (tt, tt)), omega arith)
block_code (suc (suc zero)) number word = ((tt, (tt, (tt, tt))), omega arith)
block_code (suc (suc (suc zero))) number word = ((tt, (tt, (tt, (tt, tt)))), omega arith)
block_code (suc (suc (suc (suc kind)))) number word = (tt, omega arith)

-- a block has at most three words of code
blocks_code : (number : ℕ) (words : List ℕ) → AllByRecursion IsOfCode (bodies_from number words)
    × (bytes_of (bodies_from number words) ≤ 12 * length words)
blocks_code number [] = (tt, omega arith)
blocks_code number (word ∷ words) =
    let block = block_code (word % 4) number word in
    let others = blocks_code (number + 1) words in (
      AllByRecursion-append IsOfCode (block_bodies number word) (bodies_from (number + 1) words) block.0 others.0,
      omega (arith, sum_by-append code_size (block_bodies number word) (bodies_from (number + 1) words), block.1, others.1),
    )

-- ---- labels

label_apart : (a b : ℕ) → a < b → b < 2 ^ 64 → bytes_eq (label_of a) (label_of b) ≡ false
label_apart a b less low = false_from_ne_true (bytes_eq (label_of a) (label_of b))
    (λ same. let equal = (bytes_eq-Decides (label_of a) (label_of b)).0 same in
    let digits : decimal a ≡ decimal b = cc in
    let values = ap (digits_value 10) digits in
    omega (arith, less, values, (decimal_is_IsNumeral a (omega (arith, less, low))).1, (decimal_is_IsNumeral b low).1))

-- each name is the label of a block before one
abbrev AreBefore : ℕ → List (List ℕ) → Type 0
AreBefore number names = AllByRecursion (λ name. (k : ℕ) × (k < number) × (name ≡ label_of k)) names

before_more : (number : ℕ) (names : List (List ℕ)) → AreBefore number names → AreBefore (number + 1) names
before_more number names before =
    AllByRecursion-weaker (λ (name : List ℕ). (k : ℕ) × (k < number) × (name ≡ label_of k))
    (λ (name : List ℕ). (k : ℕ) × (k < number + 1) × (name ≡ label_of k)) (λ name is. (is.0, omega (arith, is.1), is.2)) names before

label_new : (number : ℕ) (names : List (List ℕ)) → number < 2 ^ 64 → AreBefore number names → is_among names (label_of number) ≡ false
label_new number [] low before = refl
label_new number (name ∷ names) low before =
    let apart = label_apart before.0.0 number before.0.1 low in
    rw (before.0.2, apart, label_new number names low before.1) refl

table_new : (number : ℕ) (names : List (List ℕ)) → AreBefore number names → is_among names (codes "table") ≡ false
table_new number [] before = refl
table_new number (name ∷ names) before = rw (before.0.2, table_new number names before.1) refl

block_new : (kind number word : ℕ) (known rest : List (List ℕ)) → number < 2 ^ 64 → AreBefore number known
    → ((more : List (List ℕ)) → AreBefore (number + 1) more → AreNew more rest)
    → AreNew known (labels_among (slice_index_or (bodies_by_kind number word) kind []) ++ rest)
block_new zero number word known rest low before new = new known (before_more number known before)
block_new (suc zero) number word known rest low before new = new known (before_more number known before)
block_new (suc (suc zero)) number word known rest low before new = new known (before_more number known before)
block_new (suc (suc (suc zero))) number word known rest low before new =
    let own : AreBefore (number + 1) (label_of number ∷ []) = ((number, omega arith, refl), tt) in (
      label_new number known low before,
      new (known ++ label_of number ∷ [])
          (AllByRecursion-append (λ (name : List ℕ). (k : ℕ) × (k < number + 1) × (name ≡ label_of k)) known (label_of number ∷ [])
          (before_more number known before) own),
    )
block_new (suc (suc (suc (suc kind)))) number word known rest low before new = new known (before_more number known before)

blocks_new : (number : ℕ) (words : List ℕ) (known : List (List ℕ)) → number + length words ≤ 1000 → AreBefore number known
    → AreNew known (labels_among (bodies_from number words) ++ codes "table" ∷ [])
blocks_new number [] known fits before = (table_new number known before, tt)
blocks_new number (word ∷ words) known fits before =
    let block = block_bodies number word in
    let others = bodies_from (number + 1) words in
    let table = codes "table" ∷ [] in
    let both : labels_among (block ++ others) ++ table ≡ labels_among block ++ (labels_among others ++ table) =
    ap (λ (names : List (List ℕ)). names ++ table) (flat_map-append labels_in block others)
    ∙ append_assoc (labels_among block) (labels_among others) table in
    subst (AreNew known) (sym both)
    (block_new (word % 4) number word known (labels_among others ++ table) (omega arith) before
    (λ more later. blocks_new (number + 1) words more (omega arith) later))

-- ---- the labels that statements name

among_left : (a b : List (List ℕ)) (name : List ℕ) → is_among a name ≡ true → is_among (a ++ b) name ≡ true
among_left a b name is = list_any-append (λ (other : List ℕ). bytes_eq other name) a b ∙ or_left (is_among a name) (is_among b name) is

among_right : (a b : List (List ℕ)) (name : List ℕ) → is_among b name ≡ true → is_among (a ++ b) name ≡ true
among_right a b name is = list_any-append (λ (other : List ℕ). bytes_eq other name) a b ∙ or_right (is_among a name) (is_among b name) is

-- statements that name labels of their own, and others that do
among_both : (a b : List Body) → AreAmong (labels_among a) (targets_among a) → AreAmong (labels_among b) (targets_among b)
    → AreAmong (labels_among (a ++ b)) (targets_among (a ++ b))
among_both a b first second =
    let all = labels_among a ++ labels_among b in
    rw (flat_map-append labels_in a b, flat_map-append targets_in a b)
    (AllByRecursion-append (λ (name : List ℕ). is_among all name ≡ true) (targets_among a) (targets_among b)
    (AllByRecursion-weaker (λ (name : List ℕ). is_among (labels_among a) name ≡ true) (λ (name : List ℕ). is_among all name ≡ true)
    (among_left (labels_among a) (labels_among b)) (targets_among a) first)
    (AllByRecursion-weaker (λ (name : List ℕ). is_among (labels_among b) name ≡ true) (λ (name : List ℕ). is_among all name ≡ true)
    (among_right (labels_among a) (labels_among b)) (targets_among b) second))

block_among : (kind number word : ℕ)
    → AreAmong (labels_among (slice_index_or (bodies_by_kind number word) kind []))
    (targets_among (slice_index_or (bodies_by_kind number word) kind []))
block_among zero number word = tt
block_among (suc zero) number word = tt
block_among (suc (suc zero)) number word = tt
block_among (suc (suc (suc zero))) number word =
    let same = (bytes_eq-Decides (label_of number) (label_of number)).1 refl in (rw same refl, tt)
block_among (suc (suc (suc (suc kind)))) number word = tt

blocks_among : (number : ℕ) (words : List ℕ)
    → AreAmong (labels_among (bodies_from number words)) (targets_among (bodies_from number words))
blocks_among number [] = tt
blocks_among number (word ∷ words) =
    among_both (block_bodies number word) (bodies_from (number + 1) words) (block_among (word % 4) number word)
    (blocks_among (number + 1) words)

-- ---- all statements

first_place : (end : ℕ) → place_behind end [] ≡ in_text 0 end
unfolding code_behind data_behind part_behind
first_place end = refl

without_fault : (ss : List Statement) (bodies : List Body) → bodies_of ss ≡ bodies → 0 < code_behind ss
    → HaveRoom 65536 (in_text 0 (code_end ss)) bodies → AreNew [] (labels_among bodies)
    → AreAmong (labels_among bodies) (targets_among bodies) → layout_fault (8 * 8192) ss ≡ None
without_fault ss bodies same some room new among =
    let back = sym same in
    no_fault ss some
    (subst (λ (place : Place). HaveRoom 65536 place (bodies_of ss)) (sym (first_place (code_end ss)))
    (subst (HaveRoom 65536 (in_text 0 (code_end ss))) back room))
    (subst (λ (all : List Body). AreNew [] (labels_among all)) back new)
    (subst (λ (all : List Body). AreAmong (labels_among all) (targets_among all)) back among)

all_new : (seed size : ℕ) → size ≤ 1000 → AreNew [] (labels_among (front_bodies seed size ++ tail_bodies))
all_new seed size fits =
    let words = words_of seed size in
    subst (AreNew []) (sym (flat_map-append labels_in (bodies_from 0 words) tail_bodies))
    (blocks_new 0 words [] (omega (arith, fits, length-words_of seed size)) tt)

all_among : (seed size : ℕ)
    → AreAmong (labels_among (front_bodies seed size ++ tail_bodies)) (targets_among (front_bodies seed size ++ tail_bodies))
all_among seed size =
    let blocks = bodies_from 0 (words_of seed size) in
    let table : is_among (labels_among (blocks ++ tail_bodies)) (codes "table") ≡ true =
    ap (λ (names : List (List ℕ)). is_among names (codes "table")) (flat_map-append labels_in blocks tail_bodies)
    ∙ among_right (labels_among blocks) (codes "table" ∷ []) (codes "table") refl in
    (table, among_both blocks tail_bodies (blocks_among 0 (words_of seed size)) tt)

pub laid_out : (seed size : ℕ) → size ≤ 1000 → layout_fault (8 * 8192) (drawn_statements seed size) ≡ None
laid_out seed size fits =
    let ss = drawn_statements seed size in
    let words = words_of seed size in
    let front = front_bodies seed size in
    let end = code_end ss in
    let bodies = drawn_bodies seed size in
    let count = length-words_of seed size in
    let code : AllByRecursion IsOfCode front = (tt, (tt, (blocks_code 0 words).0)) in
    let bytes : bytes_of front ≤ 12016 =
    omega (arith, fits, count, sum_by-append code_size head_bodies (bodies_from 0 words), (blocks_code 0 words).1) in
    let total : code_behind ss ≡ bytes_of front + 4 =
    code_counted ss ∙ ap bytes_of bodies ∙ sum_by-append code_size front tail_bodies in
    let near : end ≤ 32768 = omega (arith, bytes, total) in
    let room = front_fits 0 end front tail_bodies code (omega (arith, bytes)) (omega (arith, near))
    (tail_fits (0 + bytes_of front) end (omega (arith, bytes)) near) in
    without_fault ss (front ++ tail_bodies) bodies (omega (arith, total)) room (all_new seed size fits) (all_among seed size)
