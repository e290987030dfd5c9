-- Worked histories that follow the letters. Line 32 has the addresses 256 to 263, line 33 those from 264 on.
use Rattle.std.specs.Prelude.{true, false, List, [], ◌∷◌, Some, None}
use Rattle.std.specs.List.{AllByRecursion}
use Rattle.mips_isa.specs.declared.Kind.TheVariants.{Lw, Sw, Cas}
use Rattle.access_log.specs.declared.Item.{Item}
use Rattle.access_log.specs.declared.Letter.TheVariants as letters
use Rattle.letters.specs.Histories.{Shape, FollowsIn, access, transaction}

pub record History : Type 0 where
  pub shape : Shape
  pub items : List Item

-- Caches with room for one line each. Core 0 stores; core 1 loads the word, which core 0 supplies and then owns; core 0
-- loads another line, drops the owned one and stores without a further transaction; it loads a third line and drops the
-- second; core 1 upgrades its copy and stores; core 0 loads the word back; it upgrades its copy, and core 1 fetches it again.
abbrev pub moved : History
moved = record {
  shape = record { cores = 2; code_lines = 1; sets = 1; ways = 1 };
  items = transaction 1 32 true 0 None None letters.M
      ∷ access 0 0 Sw 256 0 (Some 7)
      ∷ transaction 3 32 false 2 (Some 1) None letters.S
      ∷ access 1 0 Lw 256 7 None
      ∷ transaction 1 33 false 0 None (Some 32) letters.E
      ∷ access 0 1 Sw 264 0 (Some 5)
      ∷ transaction 1 34 false 0 None (Some 33) letters.E
      ∷ access 0 2 Lw 272 0 None
      ∷ transaction 3 32 true 0 None None letters.M
      ∷ access 1 1 Sw 256 7 (Some 9)
      ∷ transaction 1 32 false 8 (Some 3) (Some 34) letters.S
      ∷ access 0 3 Lw 256 9 None
      ∷ transaction 1 32 true 8 (Some 3) None letters.M
      ∷ access 0 4 Sw 256 9 (Some 11)
      ∷ transaction 3 32 true 2 (Some 1) None letters.M
      ∷ access 1 2 Sw 256 11 (Some 12)
      ∷ [];
}

-- Instruction caches, and two sets. Both cores fetch line 0, which is exclusive first and then shared; both fetch line 1,
-- which stands in the other set, so no line makes room; core 0 loads a word of line 0, which it shares with both; it loads
-- line 2, for which line 0 makes room, since both are of the even set; core 1 fetches line 2 too, and drops its line 0.
abbrev pub fetched : History
fetched = record {
  shape = record { cores = 2; code_lines = 3; sets = 2; ways = 1 };
  items = transaction 0 0 false 0 None None letters.E
      ∷ transaction 2 0 false 1 None None letters.S
      ∷ transaction 0 1 false 0 None None letters.E
      ∷ transaction 2 1 false 1 None None letters.S
      ∷ transaction 1 0 false 5 None None letters.S
      ∷ access 0 3 Lw 4 0 None
      ∷ transaction 1 2 false 0 None (Some 0) letters.E
      ∷ access 0 4 Lw 16 0 None
      ∷ transaction 2 2 false 2 None (Some 0) letters.S
      ∷ access 0 5 Lw 20 0 None
      ∷ [];
}

-- An exclusive line that is read. Core 0 loads a word; core 1 loads it too, and main memory supplies it, so both share the
-- line; each loads it again; core 1 upgrades its copy, which no cache supplies, and stores.
abbrev pub shared : History
shared = record {
  shape = record { cores = 2; code_lines = 1; sets = 1; ways = 1 };
  items = transaction 1 32 false 0 None None letters.E
      ∷ access 0 0 Lw 256 0 None
      ∷ transaction 3 32 false 2 None None letters.S
      ∷ access 1 0 Lw 260 0 None
      ∷ access 0 1 Lw 256 0 None
      ∷ transaction 3 32 true 2 None None letters.M
      ∷ access 1 1 Sw 260 0 (Some 3)
      ∷ [];
}

-- An exclusive line that is stored to. Core 0 loads a word and stores there with no transaction: the line is modified now,
-- so core 0 supplies it when core 1 loads it.
abbrev pub modified : History
modified = record {
  shape = record { cores = 2; code_lines = 1; sets = 1; ways = 1 };
  items = transaction 1 32 false 0 None None letters.E
      ∷ access 0 0 Lw 256 0 None
      ∷ access 0 1 Sw 256 0 (Some 7)
      ∷ access 0 2 Lw 256 7 None
      ∷ transaction 3 32 false 2 (Some 1) None letters.S
      ∷ access 1 0 Lw 256 7 None
      ∷ [];
}

-- An owned line with copies. Core 0 stores; the other cores load the word one after the other, and core 0 supplies each; it
-- loads the word itself; it upgrades its line, which was the only dirty one, stores, and supplies core 1 again, while
-- cores 2 and 3 have no copies any more.
abbrev pub owned : History
owned = record {
  shape = record { cores = 4; code_lines = 1; sets = 1; ways = 1 };
  items = transaction 1 32 true 0 None None letters.M
      ∷ access 0 0 Sw 256 0 (Some 7)
      ∷ transaction 3 32 false 2 (Some 1) None letters.S
      ∷ access 1 0 Lw 256 7 None
      ∷ transaction 5 32 false 10 (Some 1) None letters.S
      ∷ access 2 0 Lw 256 7 None
      ∷ transaction 7 32 false 42 (Some 1) None letters.S
      ∷ access 3 0 Lw 256 7 None
      ∷ access 0 1 Lw 256 7 None
      ∷ transaction 1 32 true 168 None None letters.M
      ∷ access 0 2 Sw 256 7 (Some 8)
      ∷ transaction 3 32 false 2 (Some 1) None letters.S
      ∷ access 1 1 Lw 256 8 None
      ∷ [];
}

-- Compare and swap. Core 0 fetches a line to modify it, and swaps; core 1 does the same, finds another word than it expects
-- and stores nothing, but has the only copy; core 0 loads another line, compares there and stores nothing, so that line is
-- as main memory has it still, and no cache supplies it to core 1.
abbrev pub swapped : History
swapped = record {
  shape = record { cores = 2; code_lines = 1; sets = 2; ways = 1 };
  items = transaction 1 32 true 0 None None letters.M
      ∷ access 0 0 Cas 256 0 (Some 1)
      ∷ transaction 3 32 true 2 (Some 1) None letters.M
      ∷ access 1 0 Cas 256 1 None
      ∷ transaction 1 33 false 0 None None letters.E
      ∷ access 0 1 Lw 264 0 None
      ∷ access 0 2 Cas 264 0 None
      ∷ transaction 3 33 false 2 None None letters.S
      ∷ access 1 1 Lw 264 0 None
      ∷ [];
}

-- A set with room for two lines. Core 0 loads line 32, then line 33, then line 32 again; line 34 takes the place of line
-- 32, which was filled first. Core 1 stores to line 33, so that core 0 has room for line 35; then line 34 makes room for
-- line 36, and line 35 for line 33. Core 1 loads line 36; core 0 upgrades its copy and stores, but the line stays where it
-- was filled: it makes room for line 37.
abbrev pub two_ways : History
two_ways = record {
  shape = record { cores = 2; code_lines = 1; sets = 1; ways = 2 };
  items = transaction 1 32 false 0 None None letters.E
      ∷ access 0 0 Lw 256 0 None
      ∷ transaction 1 33 false 0 None None letters.E
      ∷ access 0 1 Lw 264 0 None
      ∷ access 0 2 Lw 256 0 None
      ∷ transaction 1 34 false 0 None (Some 32) letters.E
      ∷ access 0 3 Lw 272 0 None
      ∷ access 0 4 Lw 264 0 None
      ∷ transaction 3 33 true 2 None None letters.M
      ∷ access 1 0 Sw 264 0 (Some 1)
      ∷ transaction 1 35 false 0 None None letters.E
      ∷ access 0 5 Lw 280 0 None
      ∷ transaction 1 36 false 0 None (Some 34) letters.E
      ∷ access 0 6 Lw 288 0 None
      ∷ transaction 1 33 false 8 (Some 3) (Some 35) letters.S
      ∷ access 0 7 Lw 264 1 None
      ∷ transaction 3 36 false 2 None None letters.S
      ∷ access 1 1 Lw 288 0 None
      ∷ transaction 1 36 true 8 None None letters.M
      ∷ access 0 8 Sw 288 0 (Some 2)
      ∷ transaction 1 37 false 0 None (Some 36) letters.E
      ∷ access 0 9 Lw 296 0 None
      ∷ [];
}

abbrev pub worked_histories : List History
worked_histories = moved ∷ fetched ∷ shared ∷ modified ∷ owned ∷ swapped ∷ two_ways ∷ []

abbrev pub WorkedHistoriesFollow : Type 0
WorkedHistoriesFollow = AllByRecursion (λ history. FollowsIn history.shape history.items) worked_histories
