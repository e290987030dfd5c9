-- The code of statements: what its words spell, and how many there are.
use Rattle.std.proofs.Common.{◌≡◌, ℕ, ◌+◌, ◌*◌, ◌/◌, ◌%◌, ◌^◌, ◌<◌, List, [], ◌∷◌, ◌++◌, length, map, replicate, refl, arith, length-append}
use Rattle.std.specs.Prelude.{All, IsSome}
use Rattle.std.proofs.lemmas.Grind.{common_steps}
use Rattle.std.proofs.lemmas.List.Elements.{All-append, All-cons, All-nil, All-head, All-tail, All-replicate}
use Rattle.std.proofs.lemmas.List.Sums.{sum_by-cons}
use Rattle.mips_isa.specs.Fields.{instr_of, special_of}
use Rattle.mips_isa.specs.Words.{IsProper, word_of}
use Rattle.mips_isa.specs.Steps.{IsCode}
use Rattle.mips_isa.specs.declared.Instr.{Instr}
use Rattle.mips_isa.specs.declared.Instr.TheVariants as instrs
use Rattle.mips_isa.specs.declared.ImmOp.TheVariants.{Ori}
use Rattle.mips_isa.proofs.FieldLaws.{instr_of-word_of}
use Rattle.asm_parse.specs.declared.statement.Body.{Body}
use Rattle.asm_parse.specs.declared.statement.Body.TheVariants as bodies
use Rattle.asm_parse.specs.declared.statement.Statement.{Statement}
use Rattle.asm_parse.specs.Statements.{IsProperBody, IsBranch, AreProper, lower_half}
use Rattle.asm_layout.specs.Places.{code_size, code_behind, code_end}
use Rattle.asm_layout.specs.Labels.{Addresses}
use Rattle.asm_link.specs.Assembly.{address_of, word_in, distance, branch_by, upper_half, load_of, instrs_of, code_from, padded}

-- a word that spells an instruction
abbrev IsWord : ℕ → Type 0
IsWord word = IsSome (instr_of word)

spelled : (instr : Instr) → IsProper instr → IsWord (word_of instr)
spelled instr proper = rw (instr_of-word_of instr proper) refl

spelled_alone : (instr : Instr) → IsProper instr → All IsWord (map word_of (instr ∷ []))
spelled_alone instr proper = All-cons IsWord (word_of instr) [] (spelled instr proper) (All-nil IsWord)

nop_spelled : IsWord 0
unfolding instr_of special_of
nop_spelled = refl

branch_proper : (imm : ℕ) (instr : Instr) → imm < 2 ^ 16 → IsProper instr → IsBranch instr → IsProper (branch_by imm instr)
branch_proper imm (instrs.BranchTwo differ rs rt other) below proper branch = (proper.0, proper.1, below)
branch_proper imm (instrs.BranchZero op rs other) below proper branch = (proper.0, below)
branch_proper imm other below proper branch = elim branch [ ]

load_spelled : (rt word : ℕ) → rt < 32 → All IsWord (map word_of (load_of rt word))
load_spelled rt word below =
    let lui = instrs.Lui rt (upper_half word) in
    let ori = instrs.AluImm Ori rt rt (lower_half word) in
    All-cons IsWord (word_of lui) (word_of ori ∷ []) (spelled lui (below, omega arith)) (spelled_alone ori (below, below, omega arith))

instrs_spelled : (known : Addresses) (here : ℕ) (body : Body) → IsProperBody body → All IsWord (map word_of (instrs_of known here body))
instrs_spelled known here (bodies.Plain instr) proper = spelled_alone instr proper
instrs_spelled known here (bodies.BranchTo instr name) proper =
    let imm = distance here (address_of known name) in
    spelled_alone (branch_by imm instr) (branch_proper imm instr (omega arith) proper.0 proper.1)
instrs_spelled known here (bodies.JumpTo link name) proper =
    spelled_alone (instrs.Jump link (address_of known name / 4 % 2 ^ 26)) (omega arith)
instrs_spelled known here (bodies.Load rt value) proper = load_spelled rt (word_in known value) proper
instrs_spelled known here other proper = All-nil IsWord

pub code_spelled : (known : Addresses) (before ss : List Statement) → AreProper ss → IsCode (code_from known before ss)
unfolding code_from
code_spelled known before [] proper = All-nil IsWord
code_spelled known before (s ∷ ss) proper =
    let P : Statement → Type 0 = λ t. IsProperBody t.body in
    All-append IsWord (map word_of (instrs_of known (code_behind before) s.body)) (code_from known (before ++ s ∷ []) ss)
    (instrs_spelled known (code_behind before) s.body (All-head P s ss proper))
    (code_spelled known (before ++ s ∷ []) ss (All-tail P s ss proper))

pub padded_spelled : (words : List ℕ) → IsCode words → IsCode (padded words)
padded_spelled words spells = All-append IsWord words (replicate (length words % 2) 0) spells
    (All-replicate IsWord (length words % 2) 0 nop_spelled)

length-instrs_of : (known : Addresses) (here : ℕ) (body : Body) → 4 * length (map word_of (instrs_of known here body)) ≡ code_size body
length-instrs_of known here (bodies.Plain instr) = refl
length-instrs_of known here (bodies.BranchTo instr name) = refl
length-instrs_of known here (bodies.JumpTo link name) = refl
length-instrs_of known here (bodies.Load rt value) = refl
length-instrs_of known here other = refl

pub length-code_from : (known : Addresses) (before ss : List Statement) → 4 * length (code_from known before ss) ≡ code_behind ss
unfolding code_from code_behind
length-code_from known before [] = refl
length-code_from known before (s ∷ ss) =
    let here = map word_of (instrs_of known (code_behind before) s.body) in
    let others = code_from known (before ++ s ∷ []) ss in
    omega (
      arith,
      length-append here others,
      length-instrs_of known (code_behind before) s.body,
      length-code_from known (before ++ s ∷ []) ss,
      sum_by-cons (λ (t : Statement). code_size t.body) s ss,
    )

pub length-padded : (words : List ℕ) → length (padded words) ≡ length words + length words % 2
length-padded words = grind (arith, common_steps)

-- the end of the code is the end of the padded words
pub padded_end : (words : List ℕ) (ss : List Statement) → 4 * length words ≡ code_behind ss → 4 * length (padded words) ≡ code_end ss
padded_end words ss sized = omega (arith, length-padded words, sized)
