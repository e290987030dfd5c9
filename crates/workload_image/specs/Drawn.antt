-- The program that the source of a random workload means: its statements, line by line, and their image.
use Rattle.std.specs.Prelude.{◌≡◌, ℕ, ◌+◌, ◌*◌, ◌%◌, ◌≤◌, false, List, [], ◌∷◌, ◌++◌, length, codes, decimal, flat_map, slice_index_or}
use Rattle.std.specs.Prelude.{None, Ok}
use Rattle.std.specs.List.{enumerate_from}
use Rattle.mips_isa.specs.declared.Instr.TheVariants.{Alu, AluImm, BranchTwo, Lw, Sw, Cas, Halt}
use Rattle.mips_isa.specs.declared.AluOp.TheVariants.{Addu, Xor}
use Rattle.mips_isa.specs.declared.ImmOp.TheVariants.{Addiu}
use Rattle.asm_parse.specs.declared.statement.Body.{Body}
use Rattle.asm_parse.specs.declared.statement.Body.TheVariants.{Label, DataAt, Space, Plain, BranchTo, Load}
use Rattle.asm_parse.specs.declared.statement.Statement.{Statement}
use Rattle.asm_parse.specs.declared.statement.Value.TheVariants.{Number, Of}
use Rattle.asm_parse.specs.Lines.{on_line, statements_of}
use Rattle.asm_parse.specs.Printing.{on_lines}
use Rattle.asm_layout.specs.Passes.{layout_fault}
use Rattle.asm_layout.specs.DelaySlots.{split_lines}
use Rattle.asm_link.specs.Assembly.{linked}
use Rattle.workload_gen.specs.Source.{offset_of, amount_of, words_of, source_text}
use Rattle.kmp_words.specs.Input.{meaning_of}
use Rattle.kmp_words.specs.Loaded.{LoadedValue}
use Rattle.kmp_words.specs.declared.input.Input.TheVariants.{Source}

-- the registers
abbrev pub a0 : ℕ
a0 = 4

abbrev pub t0 : ℕ
t0 = 8

abbrev pub t1 : ℕ
t1 = 9

abbrev pub s0 : ℕ
s0 = 16

abbrev pub s1 : ℕ
s1 = 17

-- adds a word of the table to the sum in $s1
abbrev pub load_bodies : ℕ → List Body
load_bodies offset = Plain (Lw t0 s0 offset) ∷ Plain (Alu Addu s1 s1 t0) ∷ []

-- adds a number to the sum, and stores it in the table
abbrev pub store_bodies : ℕ → ℕ → List Body
store_bodies amount offset = Plain (AluImm Addiu s1 s1 amount) ∷ Plain (Sw s1 s0 offset) ∷ []

-- stores the sum by cas in a word of the table, where that is still as it was loaded
abbrev pub swap_bodies : ℕ → List Body
swap_bodies offset = Plain (Lw t0 s0 offset) ∷ Plain (AluImm Addiu t1 s0 offset) ∷ Plain (Cas t0 t1 s1) ∷ []

-- the label of the block of a number
abbrev pub label_of : ℕ → List ℕ
label_of number = codes "n" ++ decimal number

-- branches past the next but one where the sum is 0
abbrev pub branch_bodies : ℕ → List Body
branch_bodies number =
    BranchTo (BranchTwo false s1 0 0) (label_of number) ∷ Plain (AluImm Addiu s1 s1 1) ∷ Plain (Alu Xor s1 s1 a0)
    ∷ Label (label_of number) ∷ []

-- the statements of a block of each kind, one a line, by the block's number and its word
abbrev pub bodies_by_kind : ℕ → ℕ → List (List Body)
bodies_by_kind number word =
    load_bodies (offset_of word) ∷ store_bodies (amount_of word) (offset_of word) ∷ swap_bodies (offset_of word)
    ∷ branch_bodies number ∷ []

-- the statements of a block, of the kind that its word draws
abbrev pub block_bodies : ℕ → ℕ → List Body
block_bodies number word = slice_index_or (bodies_by_kind number word) (word % 4) []

-- the statements of a block for each word, numbered from the first one's number
abbrev pub bodies_from : ℕ → List ℕ → List Body
bodies_from number words = flat_map (λ block. block_bodies block.0 block.1) (enumerate_from number words)

abbrev pub head_bodies : List Body
head_bodies = Load s0 (Of (codes "table")) ∷ Load s1 (Number 0) ∷ []

-- the statements of the head and of the blocks, one a line
abbrev pub front_bodies : ℕ → ℕ → List Body
front_bodies seed size = head_bodies ++ bodies_from 0 (words_of seed size)

-- the statements behind the blocks, from a line on; the last line has two
abbrev pub tail_statements : ℕ → List Statement
tail_statements line =
    on_line line (Plain Halt) ∷ on_line (line + 1) (DataAt 0x8000) ∷ on_line (line + 2) (Label (codes "table"))
    ∷ on_line (line + 2) (Space 256) ∷ []

-- the statements of the source of a seed, of so many blocks
abbrev pub drawn_statements : ℕ → ℕ → List Statement
drawn_statements seed size = on_lines 1 (front_bodies seed size) ++ tail_statements (1 + length (front_bodies seed size))

-- the program of these statements in 65,536 bytes of memory, which are 8,192 lines of 8 bytes
abbrev pub drawn_program : ℕ → ℕ → LoadedValue
drawn_program seed size = record {
  image = linked 8192 (drawn_statements seed size);
  split = split_lines (drawn_statements seed size);
}

-- The source of at most 1,000 blocks is read as these statements, nothing is wrong with them as a whole, and the source
-- means their program.
pub record DrawnSourcesArePrograms : Type 0 where
  pub read : (seed size : ℕ) → size ≤ 1000 → statements_of (source_text seed size) ≡ Ok (drawn_statements seed size)
  pub laid_out : (seed size : ℕ) → size ≤ 1000 → layout_fault (8 * 8192) (drawn_statements seed size) ≡ None
  pub meant : (seed size : ℕ) → size ≤ 1000 → meaning_of (Source 8192) (source_text seed size) ≡ Ok (drawn_program seed size)
