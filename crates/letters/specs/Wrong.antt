-- Histories that don't follow the letters, each beside one that does.
use Rattle.std.specs.Prelude.{true, false, List, [], ◌∷◌, ◌++◌, Some, None}
use Rattle.std.specs.List.{AllByRecursion}
use Rattle.mips_isa.specs.declared.Kind.TheVariants.{Lw, Sw, Cas}
use Rattle.access_log.specs.declared.Item.{Item}
use Rattle.access_log.specs.declared.Letter.TheVariants as letters
use Rattle.letters.specs.Histories.{Shape, FollowsIn, access, transaction}

-- A history that goes on wrongly, and how it may go on in its place.
pub record Fork : Type 0 where
  pub shape : Shape
  pub before : List Item
  pub wrong : List Item
  pub right : List Item

abbrev pub IsTold : Fork → Type 0
IsTold fork = FollowsIn fork.shape (fork.before ++ fork.right) × (FollowsIn fork.shape (fork.before ++ fork.wrong) → ⊥)

-- Two cores, one line of code, and caches with one set of so many ways.
abbrev pub one_way : Shape
one_way = record { cores = 2; code_lines = 1; sets = 1; ways = 1 }

abbrev pub two_ways : Shape
two_ways = record { cores = 2; code_lines = 1; sets = 1; ways = 2 }

-- Core 0 has line 32 exclusive.
abbrev pub exclusive : List Item
exclusive = transaction 1 32 false 0 None None letters.E ∷ []

-- It has stored there.
abbrev pub modified : List Item
modified = transaction 1 32 true 0 None None letters.M ∷ access 0 0 Sw 256 0 (Some 7) ∷ []

-- Both cores share line 32, and main memory has it.
abbrev pub shared : List Item
shared = exclusive ++ transaction 3 32 false 2 None None letters.S ∷ []

-- Core 0 owns line 32, and core 1 has a copy.
abbrev pub owned : List Item
owned = modified ++ transaction 3 32 false 2 (Some 1) None letters.S ∷ []

-- The upgrade of core 0's copy, where main memory has the line or core 0 itself owns it.
abbrev pub upgrade : Item
upgrade = transaction 1 32 true 8 None None letters.M

-- A shared line is stored to only behind an upgrade.
abbrev pub store_to_a_shared_line : Fork
store_to_a_shared_line = record {
  shape = one_way;
  before = shared;
  wrong = access 0 0 Sw 256 0 (Some 7) ∷ [];
  right = upgrade ∷ access 0 0 Sw 256 0 (Some 7) ∷ [];
}

-- So is an owned line that has copies.
abbrev pub store_to_an_owned_line : Fork
store_to_an_owned_line = record {
  shape = one_way;
  before = owned;
  wrong = access 0 1 Sw 256 7 (Some 8) ∷ [];
  right = upgrade ∷ access 0 1 Sw 256 7 (Some 8) ∷ [];
}

-- A compare and swap that stores nothing needs the only copy all the same.
abbrev pub compare_in_a_shared_line : Fork
compare_in_a_shared_line = record {
  shape = one_way;
  before = shared;
  wrong = access 0 0 Cas 256 0 None ∷ [];
  right = upgrade ∷ access 0 0 Cas 256 0 None ∷ [];
}

-- A line that was never there isn't loaded from.
abbrev pub load_of_another_line : Fork
load_of_another_line = record {
  shape = one_way;
  before = exclusive;
  wrong = access 0 0 Lw 264 0 None ∷ [];
  right = access 0 0 Lw 260 0 None ∷ [];
}

-- Nor one that another core's store took away.
abbrev pub load_behind_an_upgrade : Fork
load_behind_an_upgrade = record {
  shape = one_way;
  before = owned ++ upgrade ∷ [];
  wrong = access 1 0 Lw 256 7 None ∷ [];
  right = access 0 1 Lw 256 7 None ∷ [];
}

-- Nor one that has made room.
abbrev pub load_of_a_victim : Fork
load_of_a_victim = record {
  shape = one_way;
  before = exclusive ++ transaction 1 33 false 0 None (Some 32) letters.E ∷ [];
  wrong = access 0 0 Lw 256 0 None ∷ [];
  right = access 0 0 Lw 264 0 None ∷ [];
}

-- A core doesn't load from its instruction cache.
abbrev pub load_from_the_instruction_cache : Fork
load_from_the_instruction_cache = record {
  shape = one_way;
  before = transaction 0 0 false 0 None None letters.E ∷ [];
  wrong = access 0 0 Lw 0 0 None ∷ [];
  right = transaction 1 0 false 1 None None letters.S ∷ access 0 0 Lw 0 0 None ∷ [];
}

-- A cache that has the line as main memory has it supplies nothing.
abbrev pub clean_supplier : Fork
clean_supplier = record {
  shape = one_way;
  before = exclusive;
  wrong = transaction 3 32 false 2 (Some 1) None letters.S ∷ [];
  right = transaction 3 32 false 2 None None letters.S ∷ [];
}

-- One that has it modified does.
abbrev pub no_supplier : Fork
no_supplier = record {
  shape = one_way;
  before = modified;
  wrong = transaction 3 32 false 2 None None letters.S ∷ [];
  right = transaction 3 32 false 2 (Some 1) None letters.S ∷ [];
}

-- The owner supplies, and not a copy.
abbrev pub copy_supplies : Fork
copy_supplies = record {
  shape = record { cores = 3; code_lines = 1; sets = 1; ways = 1 };
  before = owned;
  wrong = transaction 5 32 false 10 (Some 3) None letters.S ∷ [];
  right = transaction 5 32 false 10 (Some 1) None letters.S ∷ [];
}

-- The master's own line is none that another supplies.
abbrev pub master_supplies : Fork
master_supplies = record {
  shape = one_way;
  before = owned;
  wrong = transaction 1 32 true 8 (Some 1) None letters.M ∷ [];
  right = upgrade ∷ [];
}

-- Of two lines the first filled makes room.
abbrev pub second_filled_makes_room : Fork
second_filled_makes_room = record {
  shape = two_ways;
  before = exclusive ++ transaction 1 33 false 0 None None letters.E ∷ [];
  wrong = transaction 1 34 false 0 None (Some 33) letters.E ∷ [];
  right = transaction 1 34 false 0 None (Some 32) letters.E ∷ [];
}

-- Where there is room, none does.
abbrev pub victim_beside_room : Fork
victim_beside_room = record {
  shape = two_ways;
  before = exclusive;
  wrong = transaction 1 33 false 0 None (Some 32) letters.E ∷ [];
  right = transaction 1 33 false 0 None None letters.E ∷ [];
}

-- Where there is none, one does.
abbrev pub no_victim : Fork
no_victim = record {
  shape = one_way;
  before = exclusive;
  wrong = transaction 1 33 false 0 None None letters.E ∷ [];
  right = transaction 1 33 false 0 None (Some 32) letters.E ∷ [];
}

-- A line that another cache has is not exclusive.
abbrev pub exclusive_beside_a_copy : Fork
exclusive_beside_a_copy = record {
  shape = one_way;
  before = exclusive;
  wrong = transaction 3 32 false 2 None None letters.E ∷ [];
  right = transaction 3 32 false 2 None None letters.S ∷ [];
}

-- And all that have it say so.
abbrev pub copy_is_not_told : Fork
copy_is_not_told = record {
  shape = one_way;
  before = exclusive;
  wrong = transaction 3 32 true 0 None None letters.M ∷ [];
  right = transaction 3 32 true 2 None None letters.M ∷ [];
}

-- A line that is there isn't read again.
abbrev pub needless_read : Fork
needless_read = record {
  shape = one_way;
  before = shared;
  wrong = transaction 1 32 false 8 None None letters.S ∷ [];
  right = upgrade ∷ [];
}

-- An exclusive line needs no upgrade.
abbrev pub needless_upgrade : Fork
needless_upgrade = record {
  shape = one_way;
  before = exclusive;
  wrong = transaction 1 32 true 0 None None letters.M ∷ [];
  right = access 0 0 Sw 256 0 (Some 7) ∷ [];
}

-- An instruction cache reads code alone.
abbrev pub fetch_behind_the_code : Fork
fetch_behind_the_code = record {
  shape = one_way;
  before = [];
  wrong = transaction 0 1 false 0 None None letters.E ∷ [];
  right = transaction 0 0 false 0 None None letters.E ∷ [];
}

-- It never reads it to modify it.
abbrev pub fetch_to_modify : Fork
fetch_to_modify = record {
  shape = one_way;
  before = [];
  wrong = transaction 0 0 true 0 None None letters.M ∷ [];
  right = transaction 1 0 true 0 None None letters.M ∷ [];
}

-- Two cores have no cache 4.
abbrev pub cache_of_no_core : Fork
cache_of_no_core = record {
  shape = one_way;
  before = [];
  wrong = transaction 4 0 false 0 None None letters.E ∷ [];
  right = transaction 2 0 false 0 None None letters.E ∷ [];
}

abbrev pub wrong_histories : List Fork
wrong_histories =
    store_to_a_shared_line ∷ store_to_an_owned_line ∷ compare_in_a_shared_line
    ∷ load_of_another_line ∷ load_behind_an_upgrade ∷ load_of_a_victim ∷ load_from_the_instruction_cache
    ∷ clean_supplier ∷ no_supplier ∷ copy_supplies ∷ master_supplies
    ∷ second_filled_makes_room ∷ victim_beside_room ∷ no_victim
    ∷ exclusive_beside_a_copy ∷ copy_is_not_told ∷ needless_read ∷ needless_upgrade
    ∷ fetch_behind_the_code ∷ fetch_to_modify ∷ cache_of_no_core ∷ []

abbrev pub WrongHistoriesDontFollow : Type 0
WrongHistoriesDontFollow = AllByRecursion IsTold wrong_histories
