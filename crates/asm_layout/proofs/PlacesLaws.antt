-- Places, one statement after the other.
use Rattle.std.proofs.Common.{◌≡◌, ℕ, ◌+◌, ◌*◌, ◌^◌, ◌<◌, ◌≤◌, List, [], ◌∷◌, ◌++◌, length, take, get_or, refl, sym, arith}
use Rattle.std.proofs.lemmas.List.Sums.{sum_by-append}
use Rattle.std_laws.proofs.ListLaws.{take_more_read}
use Rattle.asm_parse.specs.declared.statement.Part.{Part}
use Rattle.asm_parse.specs.declared.statement.Part.TheVariants as parts
use Rattle.asm_parse.specs.declared.statement.Statement.{Statement}
use Rattle.asm_parse.specs.Statements.{part_moved}
use Rattle.asm_layout.specs.declared.place.Place.{Place}
use Rattle.asm_layout.specs.Places.{code_size, data_moved, code_behind, data_behind, part_behind, place_behind, place_moved}

pub no_code : 0 ≡ code_behind []
unfolding code_behind
no_code = refl

pub code_more : (before : List Statement) (s : Statement) → code_behind (before ++ s ∷ []) ≡ code_behind before + code_size s.body
unfolding code_behind
code_more before s = omega (arith, sum_by-append (λ (t : Statement). code_size t.body) before (s ∷ []))

data_more : (end : ℕ) (before : List Statement) (s : Statement)
    → data_behind end (before ++ s ∷ []) ≡ data_moved (data_behind end before) s.body
unfolding data_behind
data_more end [] s = refl
data_more end (t ∷ ts) s = data_more (data_moved end t.body) ts s

part_more : (part : Part) (before : List Statement) (s : Statement)
    → part_behind part (before ++ s ∷ []) ≡ part_moved (part_behind part before) s.body
unfolding part_behind
part_more part [] s = refl
part_more part (t ∷ ts) s = part_more (part_moved part t.body) ts s

-- The place behind one more statement is the place before it, moved.
pub place_more : (end : ℕ) (before : List Statement) (s : Statement)
    → place_behind end (before ++ s ∷ []) ≡ place_moved (place_behind end before) s.body
place_more end before s = rw (code_more before s, data_more end before s, part_more parts.Text before s) refl

-- The code of the first statements, counted by a loop.
pub code_counted : (i : ℕ) (ss : List Statement) (s : Statement) (bytes size : ℕ) → i < length ss → s ≡ get_or ss i s
    → bytes ≡ code_behind (take i ss) → size ≡ code_size s.body → bytes + size ≡ code_behind (take (i + 1) ss)
code_counted i ss s bytes size lt is counted sized = rw (take_more_read ss i s lt is, counted, sized) (sym (code_more (take i ss) s))

-- The place that a loop has come to: it is that behind the first `i` statements, and its ends are bounded.
pub record StandsBehind (end i : ℕ) (ss : List Statement) (place : Place) : Type 0 where
  pub is : place ≡ place_behind end (take i ss)
  pub code : place.code_end ≤ 8 * i
  pub segment : place.data_end ≤ 2 ^ 32 * (i + 1)

-- It moves on by a statement.
pub moves_on : (end i : ℕ) (ss : List Statement) (s : Statement) (place next : Place) → i < length ss → s ≡ get_or ss i s
    → StandsBehind end i ss place → next ≡ place_moved place s.body → next.code_end ≤ place.code_end + 8
    → next.data_end ≤ place.data_end + 2 ^ 32
    → StandsBehind end (i + 1) ss next
moves_on end i ss s place next lt is stands moved code segment = record {
  is = rw (moved, take_more_read ss i s lt is, stands.is) (sym (place_more end (take i ss) s));
  code = omega (arith, code, stands.code);
  segment = omega (arith, segment, stands.segment);
}
