-- The code of statements, one statement after the other.
use Rattle.std.proofs.Common.{◌≡◌, ℕ, ◌+◌, ◌<◌, ◌≤◌, List, [], ◌++◌, length, map, take, drop, get_or, refl, arith}
use Rattle.std.proofs.lemmas.List.Sums.{sum_by-take-le}
use Rattle.std.proofs.Math.ListN.{drop_of_length-le}
use Rattle.std_laws.proofs.ListLaws.{take_more_read, drop_more_read}
use Rattle.mips_isa.specs.Words.{word_of}
use Rattle.asm_parse.specs.declared.statement.Statement.{Statement}
use Rattle.asm_layout.specs.Places.{code_size, code_behind}
use Rattle.asm_layout.proofs.PlacesLaws.{code_counted}
use Rattle.asm_layout.specs.Labels.{Addresses}
use Rattle.asm_link.specs.Assembly.{instrs_of, code_from}

-- the code of a statement lies within that of all
pub code_within : (ss : List Statement) (s : Statement) (i : ℕ) → i < length ss → s ≡ get_or ss i s
    → code_behind (take i ss) + code_size s.body ≤ code_behind ss
unfolding code_behind
code_within ss s i lt is = omega (
  arith,
  code_counted i ss s (code_behind (take i ss)) (code_size s.body) lt is refl refl,
  sum_by-take-le (λ (t : Statement). code_size t.body) ss (i + 1),
)

pub code_goes_on : (known : Addresses) (ss : List Statement) (s : Statement) (i : ℕ) → i < length ss → s ≡ get_or ss i s
    → code_from known (take i ss) (drop i ss) ≡ map word_of (instrs_of known (code_behind (take i ss)) s.body)
    ++ code_from known (take (i + 1) ss) (drop (i + 1) ss)
unfolding code_from
code_goes_on known ss s i lt is = rw (take_more_read ss i s lt is, drop_more_read ss i s lt is) refl

pub code_done : (known : Addresses) (ss : List Statement) (i : ℕ) → length ss ≤ i → code_from known (take i ss) (drop i ss) ≡ []
unfolding code_from
code_done known ss i le = rw (drop_of_length-le ss le) refl
