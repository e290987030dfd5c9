-- The source of a random workload: blocks of four kinds over one table, each drawn by a word of PCG32.
use Rattle.std.specs.Prelude.{ℕ, ◌+◌, ◌*◌, ◌/◌, ◌%◌, List, [], ◌∷◌, ◌++◌, codes, decimal, flat_map, slice_index_or}
use Rattle.std.specs.List.{enumerate_from}
use Rattle.rand_core.specs.Steps.{first_words}
use Rattle.rand_core.specs.Pcg32Seed.{pcg32_seed}
use Rattle.rand_pcg.specs.Pcg.{pcg32, pcg32_of_seed}

-- lines in order, each with a line feed behind it
abbrev pub lines_text : List (List ℕ) → List ℕ
lines_text lines = flat_map (λ line. line ++ codes "\n") lines

-- the offset in bytes of the word of the table that is drawn, one of 64
abbrev pub offset_of : ℕ → ℕ
offset_of word = 4 * (word / 4 % 64)

-- the number that is drawn to be added
abbrev pub amount_of : ℕ → ℕ
amount_of word = word / 256 % 1000

-- adds a word of the table to the sum in $s1
abbrev pub load_lines : ℕ → List (List ℕ)
load_lines offset = (codes "lw $t0, " ++ decimal offset ++ codes "($s0)") ∷ codes "addu $s1, $s1, $t0" ∷ []

-- adds a number to the sum, and stores it in the table
abbrev pub store_lines : ℕ → ℕ → List (List ℕ)
store_lines amount offset =
    (codes "addiu $s1, $s1, " ++ decimal amount) ∷ (codes "sw $s1, " ++ decimal offset ++ codes "($s0)") ∷ []

-- stores the sum by cas in a word of the table, where that is still as it was loaded
abbrev pub swap_lines : ℕ → List (List ℕ)
swap_lines offset =
    (codes "lw $t0, " ++ decimal offset ++ codes "($s0)") ∷ (codes "addiu $t1, $s0, " ++ decimal offset) ∷ codes "cas $t0, $t1, $s1" ∷ []

-- adds one, in the delay slot, and mixes the core's number in where the sum wasn't 0; the label has the block's number
abbrev pub branch_lines : ℕ → List (List ℕ)
branch_lines number =
    (codes "beq $s1, $zero, n" ++ decimal number) ∷ codes "addiu $s1, $s1, 1" ∷ codes "xor $s1, $s1, $a0"
    ∷ (codes "n" ++ decimal number ++ codes ":") ∷ []

-- the lines of a block of each kind, by the block's number and its word
abbrev pub lines_by_kind : ℕ → ℕ → List (List (List ℕ))
lines_by_kind number word =
    load_lines (offset_of word) ∷ store_lines (amount_of word) (offset_of word) ∷ swap_lines (offset_of word) ∷ branch_lines number ∷ []

-- the lines of a block, of the kind that its word draws
abbrev pub block_lines : ℕ → ℕ → List (List ℕ)
block_lines number word = slice_index_or (lines_by_kind number word) (word % 4) []

-- the lines of a block for each word, numbered from the first one's number
abbrev pub blocks_from : ℕ → List ℕ → List (List ℕ)
blocks_from number words = flat_map (λ block. block_lines block.0 block.1) (enumerate_from number words)

-- the words that draw the blocks: those of PCG32, seeded by the seed and 2
abbrev pub words_of : ℕ → ℕ → List ℕ
words_of seed size = first_words pcg32 size (pcg32_of_seed (pcg32_seed 16 (seed + 2)))

abbrev pub head_lines : List (List ℕ)
head_lines = codes "la $s0, table" ∷ codes "li $s1, 0" ∷ []

abbrev pub tail_lines : List (List ℕ)
tail_lines = codes "halt" ∷ codes ".data 0x8000" ∷ codes "table: .space 256" ∷ []

abbrev pub source_lines : ℕ → ℕ → List (List ℕ)
source_lines seed size = head_lines ++ blocks_from 0 (words_of seed size) ++ tail_lines

-- the source of a seed, of so many blocks
abbrev pub source_text : ℕ → ℕ → List ℕ
source_text seed size = lines_text (source_lines seed size)
