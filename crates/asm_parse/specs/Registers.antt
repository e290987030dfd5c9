-- The names of the registers, as MIPS assemblers write them.
use Rattle.std.specs.Prelude.{ℕ, List, [], ◌∷◌, Option, codes}
use Rattle.kmp_base.specs.Names.{named}

-- the numbers, and the names by what calls use each register for
abbrev pub register_texts : List (List ℕ × ℕ)
register_texts =
    (codes "0", 0) ∷ (codes "1", 1) ∷ (codes "2", 2) ∷ (codes "3", 3) ∷
    (codes "4", 4) ∷ (codes "5", 5) ∷ (codes "6", 6) ∷ (codes "7", 7) ∷
    (codes "8", 8) ∷ (codes "9", 9) ∷ (codes "10", 10) ∷ (codes "11", 11) ∷
    (codes "12", 12) ∷ (codes "13", 13) ∷ (codes "14", 14) ∷ (codes "15", 15) ∷
    (codes "16", 16) ∷ (codes "17", 17) ∷ (codes "18", 18) ∷ (codes "19", 19) ∷
    (codes "20", 20) ∷ (codes "21", 21) ∷ (codes "22", 22) ∷ (codes "23", 23) ∷
    (codes "24", 24) ∷ (codes "25", 25) ∷ (codes "26", 26) ∷ (codes "27", 27) ∷
    (codes "28", 28) ∷ (codes "29", 29) ∷ (codes "30", 30) ∷ (codes "31", 31) ∷
    (codes "zero", 0) ∷ (codes "at", 1) ∷ (codes "v0", 2) ∷ (codes "v1", 3) ∷
    (codes "a0", 4) ∷ (codes "a1", 5) ∷ (codes "a2", 6) ∷ (codes "a3", 7) ∷
    (codes "t0", 8) ∷ (codes "t1", 9) ∷ (codes "t2", 10) ∷ (codes "t3", 11) ∷
    (codes "t4", 12) ∷ (codes "t5", 13) ∷ (codes "t6", 14) ∷ (codes "t7", 15) ∷
    (codes "s0", 16) ∷ (codes "s1", 17) ∷ (codes "s2", 18) ∷ (codes "s3", 19) ∷
    (codes "s4", 20) ∷ (codes "s5", 21) ∷ (codes "s6", 22) ∷ (codes "s7", 23) ∷
    (codes "t8", 24) ∷ (codes "t9", 25) ∷ (codes "k0", 26) ∷ (codes "k1", 27) ∷
    (codes "gp", 28) ∷ (codes "sp", 29) ∷ (codes "fp", 30) ∷ (codes "ra", 31) ∷ []

-- the register that stands behind `$`
unfoldable pub register_of : List ℕ → Option ℕ
register_of name = named register_texts name
