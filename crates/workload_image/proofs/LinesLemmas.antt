-- The lines of a random workload are read as its statements.
use Rattle.std.proofs.Common.{◌≡◌, ℕ, zero, suc, ◌+◌, ◌^◌, ◌<◌, ◌≤◌, true, false, List, [], ◌∷◌, ◌++◌, length, map, codes, decimal, Ok}
use Rattle.std.proofs.Common.{refl, ap, ◌∙◌, subst, arith, append_assoc}
use Rattle.std.specs.Prelude.{◌%◌, Bool, ◌&&◌, nat_le, slice_index, slice_index_or}
use Rattle.std.specs.List.{AllByRecursion, list_all, enumerate_from}
use Rattle.std.proofs.lemmas.Bool.{and_parts}
use Rattle.std.proofs.lemmas.Bool.Decides.{nat_tests}
use Rattle.std.proofs.lemmas.List.{append-nil}
use Rattle.std_laws.proofs.ListLaws.{AllByRecursion-append}
use Rattle.mips_isa.specs.declared.Instr.TheVariants.{Alu, AluImm, BranchTwo, Lw, Sw, Cas}
use Rattle.mips_isa.specs.declared.AluOp.TheVariants.{Addu, Xor}
use Rattle.mips_isa.specs.declared.ImmOp.TheVariants.{Addiu}
use Rattle.asm_token.specs.declared.token.Token.{Token}
use Rattle.asm_token.specs.declared.token.Token.TheVariants as tokens
use Rattle.asm_token.specs.Tokens.{digits_at, unsigned_at, positive_at, name_at, register_at, token_at, tokens_from}
use Rattle.asm_token.specs.Bytes.{is_blank}
use Rattle.asm_token.specs.Printing.{can_be_written, ends_before, spaced_text, AreApart}
use Rattle.asm_token.proofs.PrintingLaws.{is_text_byte, decimal_in_name, tokens_read, spaced_bytes, spaced_writes}
use Rattle.kmp_base.proofs.ReadingLaws.{with_front_and_rest}
use Rattle.asm_parse.specs.declared.statement.Body.{Body}
use Rattle.asm_parse.specs.declared.statement.Body.TheVariants.{Label, Plain, BranchTo, Load}
use Rattle.asm_parse.specs.declared.statement.Part.TheVariants.{Text}
use Rattle.asm_parse.specs.declared.statement.Statement.{Statement}
use Rattle.asm_parse.specs.declared.statement.Value.TheVariants.{Number, Of}
use Rattle.asm_parse.specs.Forms.{form_of}
use Rattle.asm_parse.specs.Lines.{labels_in, behind_labels, form_in, named_in, line_of, lines_of, statements_from, statements_of}
use Rattle.asm_parse.specs.Operands.{address_in, operand_in, more_operands_in, operands_in}
use Rattle.asm_parse.specs.Printing.{number, on_lines}
use Rattle.asm_parse.specs.Registers.{register_of}
use Rattle.asm_parse.specs.Statements.{body_of, statement_in}
use Rattle.asm_parse.proofs.LinesLaws.{line_split, statement_goes_on}
use Rattle.workload_gen.specs.Source.{lines_text, offset_of, amount_of, lines_by_kind, block_lines, blocks_from, words_of, head_lines}
use Rattle.workload_gen.specs.Source.{tail_lines, source_lines, source_text}
use Rattle.workload_gen.proofs.SizeLaws.{length-words_of}
use Rattle.workload_image.specs.Drawn.{a0, t0, t1, s0, s1, label_of, bodies_by_kind, block_bodies, bodies_from, front_bodies}
use Rattle.workload_image.specs.Drawn.{tail_statements, drawn_statements}

-- ---- a line of one statement

-- a line is read as a statement of the text part, and has no line feed
record IsRead (line : List ℕ) (body : Body) : Type 0 where
  bytes : list_all is_text_byte line ≡ true
  read : line_of Text line ≡ Ok (body ∷ [], Text)

-- tokens, each with the blanks behind it
abbrev Spaced : Type 0
Spaced = List (Token × List ℕ)

abbrev tokens_in : Spaced → List Token
tokens_in spaced = map (λ t. t.0) spaced

-- the tokens of a line are read as a statement of the text part
abbrev AreReadAs : List Token → Body → Type 0
AreReadAs ts body = with_front_and_rest (map Label (labels_in ts)) (named_in Text (behind_labels ts)) ≡ Ok (body ∷ [], Text)

-- whether each token can be written, with blanks behind it, and ends where what follows begins
abbrev are_apart : Spaced → Bool
are_apart [] = true
are_apart (t ∷ ts) =
    can_be_written t.0 && (list_all is_blank t.1 && (ends_before t.0 (slice_index (t.1 ++ spaced_text ts) 0) && are_apart ts))

apart_by_test : (spaced : Spaced) → are_apart spaced ≡ true → AreApart spaced
apart_by_test [] apart = tt
apart_by_test (t ∷ ts) apart =
    let ends = ends_before t.0 (slice_index (t.1 ++ spaced_text ts) 0) in
    let first = and_parts (can_be_written t.0) (list_all is_blank t.1 && (ends && are_apart ts)) apart in
    let second = and_parts (list_all is_blank t.1) (ends && are_apart ts) first.1 in
    let third = and_parts ends (are_apart ts) second.1 in
    (first.0, second.0, third.0, apart_by_test ts third.1)

line_is_read : (line : List ℕ) (spaced : Spaced) (body : Body) → spaced_text spaced ≡ line → are_apart spaced ≡ true
    → AreReadAs (tokens_in spaced) body → IsRead line body
unfolding line_of
line_is_read line spaced body same test are =
    let apart = apart_by_test spaced test in
    let writes = spaced_writes spaced (tokens_in spaced) refl apart in
    subst (λ (l : List ℕ). IsRead l body) same (record {
      bytes = spaced_bytes spaced apart;
      read = rw (tokens_read (spaced_text spaced) (tokens_in spaced) writes) are;
    })

abbrev blank : Token → Token × List ℕ
blank t = (t, codes " ")

abbrev bare : Token → Token × List ℕ
bare t = (t, [])

abbrev name : List ℕ → Token
name text = tokens.Name text

abbrev register : List ℕ → Token
register text = tokens.Register text

-- ---- lines with a number

-- a number that can be written, and fits 16 bits with a sign
record IsHalf (n : ℕ) : Type 0 where
  written : can_be_written (number n) ≡ true
  within : nat_le n 32767 ≡ true
  same : n % 2 ^ 16 ≡ n

is_half : (n : ℕ) → n < 32768 → IsHalf n
is_half n low = record { written = grind (arith, nat_tests); within = grind (arith, nat_tests); same = omega arith }

-- an instruction of a register and `offset($s0)`
abbrev at_offset : List ℕ → List ℕ → ℕ → Spaced
at_offset mnemonic first offset =
    blank (name mnemonic) ∷ bare (register first) ∷ blank tokens.Comma ∷ bare (number offset) ∷ bare tokens.Open
    ∷ bare (register (codes "s0")) ∷ bare tokens.Close ∷ []

load_read : (offset : ℕ) → offset < 32768 → IsRead (codes "lw $t0, " ++ decimal offset ++ codes "($s0)") (Plain (Lw t0 s0 offset))
unfolding form_of form_in named_in statement_in operands_in more_operands_in operand_in address_in register_of body_of
load_read offset low =
    let half = is_half offset low in
    line_is_read _ (at_offset (codes "lw") (codes "t0") offset) (Plain (Lw t0 s0 offset)) refl (rw half.written refl)
    (rw (half.within, half.same) refl)

store_read : (offset : ℕ) → offset < 32768 → IsRead (codes "sw $s1, " ++ decimal offset ++ codes "($s0)") (Plain (Sw s1 s0 offset))
unfolding form_of form_in named_in statement_in operands_in more_operands_in operand_in address_in register_of body_of
store_read offset low =
    let half = is_half offset low in
    line_is_read _ (at_offset (codes "sw") (codes "s1") offset) (Plain (Sw s1 s0 offset)) refl (rw half.written refl)
    (rw (half.within, half.same) refl)

-- `addiu` of two registers and a number
abbrev added : List ℕ → List ℕ → ℕ → Spaced
added first second amount =
    blank (name (codes "addiu")) ∷ bare (register first) ∷ blank tokens.Comma ∷ bare (register second) ∷ blank tokens.Comma
    ∷ bare (number amount) ∷ []

add_read : (amount : ℕ) → amount < 32768 → IsRead (codes "addiu $s1, $s1, " ++ decimal amount) (Plain (AluImm Addiu s1 s1 amount))
unfolding form_of form_in named_in statement_in operands_in more_operands_in operand_in register_of body_of
add_read amount low =
    let half = is_half amount low in
    line_is_read _ (added (codes "s1") (codes "s1") amount) (Plain (AluImm Addiu s1 s1 amount))
    (ap (λ (end : List ℕ). codes "addiu $s1, $s1, " ++ end) (append-nil (decimal amount))) (rw half.written refl)
    (rw (half.within, half.same) refl)

address_read : (offset : ℕ) → offset < 32768 → IsRead (codes "addiu $t1, $s0, " ++ decimal offset) (Plain (AluImm Addiu t1 s0 offset))
unfolding form_of form_in named_in statement_in operands_in more_operands_in operand_in register_of body_of
address_read offset low =
    let half = is_half offset low in
    line_is_read _ (added (codes "t1") (codes "s0") offset) (Plain (AluImm Addiu t1 s0 offset))
    (ap (λ (end : List ℕ). codes "addiu $t1, $s0, " ++ end) (append-nil (decimal offset))) (rw half.written refl)
    (rw (half.within, half.same) refl)

branch_read : (n : ℕ) → n < 1000 → IsRead (codes "beq $s1, $zero, n" ++ decimal n) (BranchTo (BranchTwo false s1 0 0) (label_of n))
unfolding form_of form_in named_in statement_in operands_in more_operands_in operand_in register_of body_of
branch_read n low =
    line_is_read _
    (blank (name (codes "beq")) ∷ bare (register (codes "s1")) ∷ blank tokens.Comma ∷ bare (register (codes "zero"))
    ∷ blank tokens.Comma ∷ bare (name (label_of n)) ∷ [])
    (BranchTo (BranchTwo false s1 0 0) (label_of n))
    (ap (λ (end : List ℕ). codes "beq $s1, $zero, n" ++ end) (append-nil (decimal n)))
    (rw (decimal_in_name n (omega (arith, low))) refl) refl

label_read : (n : ℕ) → n < 1000 → IsRead (codes "n" ++ decimal n ++ codes ":") (Label (label_of n))
unfolding named_in
label_read n low =
    line_is_read _ (bare (name (label_of n)) ∷ bare tokens.Colon ∷ []) (Label (label_of n)) refl
    (rw (decimal_in_name n (omega (arith, low))) refl) refl

-- ---- lines without a number, by computing

sum_read : IsRead (codes "addu $s1, $s1, $t0") (Plain (Alu Addu s1 s1 t0))
unfolding name_at register_at token_at tokens_from form_of form_in named_in line_of statement_in operands_in more_operands_in operand_in
    register_of body_of
sum_read = record { bytes = refl; read = refl }

swap_read : IsRead (codes "cas $t0, $t1, $s1") (Plain (Cas t0 t1 s1))
unfolding name_at register_at token_at tokens_from form_of form_in named_in line_of statement_in operands_in more_operands_in operand_in
    register_of body_of
swap_read = record { bytes = refl; read = refl }

one_read : IsRead (codes "addiu $s1, $s1, 1") (Plain (AluImm Addiu s1 s1 1))
unfolding digits_at unsigned_at positive_at name_at register_at token_at tokens_from form_of form_in named_in line_of statement_in
    operands_in more_operands_in operand_in register_of body_of
one_read = record { bytes = refl; read = refl }

mix_read : IsRead (codes "xor $s1, $s1, $a0") (Plain (Alu Xor s1 s1 a0))
unfolding name_at register_at token_at tokens_from form_of form_in named_in line_of statement_in operands_in more_operands_in operand_in
    register_of body_of
mix_read = record { bytes = refl; read = refl }

table_read : IsRead (codes "la $s0, table") (Load s0 (Of (codes "table")))
unfolding name_at register_at token_at tokens_from form_of form_in named_in line_of statement_in operands_in more_operands_in operand_in
    register_of body_of
table_read = record { bytes = refl; read = refl }

zero_read : IsRead (codes "li $s1, 0") (Load s1 (Number 0))
unfolding digits_at unsigned_at positive_at name_at register_at token_at tokens_from form_of form_in named_in line_of statement_in
    operands_in more_operands_in operand_in register_of body_of
zero_read = record { bytes = refl; read = refl }

tail_read : (line : ℕ) → statements_from Text (enumerate_from line tail_lines) ≡ Ok (tail_statements line)
unfolding digits_at unsigned_at positive_at name_at token_at tokens_from form_of form_in named_in line_of statement_in operands_in body_of
    statements_from
tail_read line = let next : line + 1 + 1 ≡ line + 2 = omega arith in rw next refl

-- ---- lines, one statement each

abbrev AreRead : List (List ℕ) → List Body → Type 0
AreRead [] [] = Unit {0}
AreRead (line ∷ lines) (body ∷ bodies) = IsRead line body × AreRead lines bodies
AreRead lines bodies = ⊥

AreRead-append : (lines others : List (List ℕ)) (bodies behind : List Body) → AreRead lines bodies → AreRead others behind
    → AreRead (lines ++ others) (bodies ++ behind)
AreRead-append [] others [] behind first second = second
AreRead-append (line ∷ lines) others (body ∷ bodies) behind first second =
    (first.0, AreRead-append lines others bodies behind first.1 second)
AreRead-append [] others (body ∷ bodies) behind first second = elim first [ ]
AreRead-append (line ∷ lines) others [] behind first second = elim first [ ]

block_read : (kind number word : ℕ) → number < 1000
    → AreRead (slice_index_or (lines_by_kind number word) kind []) (slice_index_or (bodies_by_kind number word) kind [])
block_read zero number word low = (load_read (offset_of word) (omega arith), (sum_read, tt))
block_read (suc zero) number word low = (add_read (amount_of word) (omega arith), (store_read (offset_of word) (omega arith), tt))
block_read (suc (suc zero)) number word low =
    (load_read (offset_of word) (omega arith), (address_read (offset_of word) (omega arith), (swap_read, tt)))
block_read (suc (suc (suc zero))) number word low = (branch_read number low, (one_read, (mix_read, (label_read number low, tt))))
block_read (suc (suc (suc (suc kind)))) number word low = tt

blocks_read : (number : ℕ) (words : List ℕ) → number + length words ≤ 1000
    → AreRead (blocks_from number words) (bodies_from number words)
blocks_read number [] fits = tt
blocks_read number (word ∷ words) fits =
    AreRead-append (block_lines number word) (blocks_from (number + 1) words) (block_bodies number word) (bodies_from (number + 1) words)
    (block_read (word % 4) number word (omega arith)) (blocks_read (number + 1) words (omega arith))

-- ---- the text

-- each line has the bytes that tokens are written by
abbrev HaveText : List (List ℕ) → Type 0
HaveText lines = AllByRecursion (λ line. list_all is_text_byte line ≡ true) lines

have_text : (lines : List (List ℕ)) (bodies : List Body) → AreRead lines bodies → HaveText lines
have_text [] bodies are = tt
have_text (line ∷ lines) (body ∷ bodies) are = (are.0.bytes, have_text lines bodies are.1)
have_text (line ∷ lines) [] are = elim are [ ]

lines_of-text : (lines : List (List ℕ)) → HaveText lines → lines_of (lines_text lines) ≡ lines
unfolding lines_of
lines_of-text [] have = refl
lines_of-text (line ∷ lines) have =
    ap lines_of (append_assoc line (codes "\n") (lines_text lines)) ∙ line_split line (lines_text lines) have.0
    ∙ ap (λ (others : List (List ℕ)). line ∷ others) (lines_of-text lines have.1)

-- lines of one statement each, and lines behind them
statements_behind : (number : ℕ) (lines rest : List (List ℕ)) (bodies : List Body) (others : List Statement) → AreRead lines bodies
    → statements_from Text (enumerate_from (number + length bodies) rest) ≡ Ok others
    → statements_from Text (enumerate_from number (lines ++ rest)) ≡ Ok (on_lines number bodies ++ others)
statements_behind number [] rest [] others are read =
    let same : number + 0 ≡ number = omega arith in
    subst (λ n. statements_from Text (enumerate_from n rest) ≡ Ok others) same read
statements_behind number (line ∷ lines) rest (body ∷ bodies) others are read =
    let next : number + length (body ∷ bodies) ≡ (number + 1) + length bodies = omega arith in
    statement_goes_on Text Text number line (lines ++ rest) body (on_lines (number + 1) bodies ++ others) are.0.read
    (statements_behind (number + 1) lines rest bodies others are.1
    (subst (λ n. statements_from Text (enumerate_from n rest) ≡ Ok others) next read))
statements_behind number [] rest (body ∷ bodies) others are read = elim are [ ]
statements_behind number (line ∷ lines) rest [] others are read = elim are [ ]

pub source_read : (seed size : ℕ) → size ≤ 1000 → statements_of (source_text seed size) ≡ Ok (drawn_statements seed size)
source_read seed size fits =
    let words = words_of seed size in
    let front = head_lines ++ blocks_from 0 words in
    let bodies = front_bodies seed size in
    let blocks = blocks_read 0 words (omega (arith, fits, length-words_of seed size)) in
    let are : AreRead front bodies = (table_read, (zero_read, blocks)) in
    let text = AllByRecursion-append (λ (line : List ℕ). list_all is_text_byte line ≡ true) front tail_lines (have_text front bodies are)
    (refl, (refl, (refl, tt))) in
    ap (λ (lines : List (List ℕ)). statements_from Text (enumerate_from 1 lines)) (lines_of-text (source_lines seed size) text)
    ∙ statements_behind 1 front tail_lines bodies (tail_statements (1 + length bodies)) are (tail_read (1 + length bodies))
