-- Items that the letters don't allow, each behind a short history, and what is told of each: of those that break one field the
-- field and what is due there, of those that break several the first of them.
use Rattle.std.specs.Prelude.{◌≡◌, true, false, List, [], ◌∷◌, ◌++◌, Option, Some, None, map}
use Rattle.std.specs.List.{AllByRecursion}
use Rattle.mips_isa.specs.declared.Kind.TheVariants.{Lw, Sw, Cas}
use Rattle.access_log.specs.declared.Item.{Item}
use Rattle.access_log.specs.declared.Letter.TheVariants as letters
use Rattle.access_log.specs.declared.field.Field.{Field}
use Rattle.access_log.specs.declared.field.Field.TheVariants as fields
use Rattle.access_log.specs.declared.field.Found.{Found}
use Rattle.access_log.specs.declared.field.Found.TheVariants as founds
use Rattle.letters.specs.Caches.{moesi, all_with}
use Rattle.letters.specs.Fold.{no_letters, letters_after}
use Rattle.letters.specs.Histories.{Shape, FollowsIn, access, transaction}
use Rattle.letters.specs.Wrong.{one_way, two_ways, exclusive, modified, shared, owned}
use Rattle.item_check.specs.declared.Illegal.{Illegal}
use Rattle.item_check.specs.Illegal.{illegal_in}

-- An item behind a history that follows the letters, and what is told of it.
pub record WorkedItem : Type 0 where
  pub shape : Shape
  pub before : List Item
  pub item : Item
  pub field : Field
  pub found : Found

-- Three cores, one line of code, and caches with room for one line.
abbrev pub three_cores : Shape
three_cores = record { cores = 3; code_lines = 1; sets = 1; ways = 1 }

-- Core 0 has fetched line 0.
abbrev pub fetched : List Item
fetched = transaction 0 0 false 0 None None letters.E ∷ []

-- An instruction cache doesn't modify.
abbrev pub fetch_to_modify : WorkedItem
fetch_to_modify = record {
  shape = one_way;
  before = [];
  item = transaction 0 0 true 0 None None letters.M;
  field = fields.Im;
  found = founds.Number 0;
}

-- Nor does it read behind the code.
abbrev pub fetch_behind_the_code : WorkedItem
fetch_behind_the_code = record {
  shape = one_way;
  before = [];
  item = transaction 0 1 false 0 None None letters.E;
  field = fields.Line;
  found = founds.Nothing;
}

-- A copy isn't read again.
abbrev pub read_of_a_copy : WorkedItem
read_of_a_copy = record {
  shape = one_way;
  before = shared;
  item = transaction 1 32 false 8 None None letters.S;
  field = fields.Held;
  found = founds.Letter letters.S;
}

-- Nor is a line that the master owns.
abbrev pub read_of_an_owned_line : WorkedItem
read_of_an_owned_line = record {
  shape = one_way;
  before = owned;
  item = transaction 1 32 false 8 None None letters.S;
  field = fields.Held;
  found = founds.Letter letters.O;
}

-- An exclusive line needs no upgrade.
abbrev pub upgrade_of_an_exclusive_line : WorkedItem
upgrade_of_an_exclusive_line = record {
  shape = one_way;
  before = exclusive;
  item = transaction 1 32 true 0 None None letters.M;
  field = fields.Held;
  found = founds.Letter letters.E;
}

-- Nor does one that is modified.
abbrev pub upgrade_of_a_modified_line : WorkedItem
upgrade_of_a_modified_line = record {
  shape = one_way;
  before = modified;
  item = transaction 1 32 true 0 None None letters.M;
  field = fields.Held;
  found = founds.Letter letters.M;
}

-- Cache 1 holds the line.
abbrev pub holder_is_not_told : WorkedItem
holder_is_not_told = record {
  shape = one_way;
  before = exclusive;
  item = transaction 3 32 true 0 None None letters.M;
  field = fields.Ch;
  found = founds.Set 2;
}

-- Caches 1 and 3 hold it.
abbrev pub one_holder_is_not_told : WorkedItem
one_holder_is_not_told = record {
  shape = three_cores;
  before = owned;
  item = transaction 5 32 false 2 (Some 1) None letters.S;
  field = fields.Ch;
  found = founds.Set 10;
}

-- No cache holds it.
abbrev pub nobody_holds_it : WorkedItem
nobody_holds_it = record {
  shape = one_way;
  before = [];
  item = transaction 1 32 false 4 None None letters.S;
  field = fields.Ch;
  found = founds.Set 0;
}

-- A clean line is supplied by main memory.
abbrev pub clean_copy_supplies : WorkedItem
clean_copy_supplies = record {
  shape = one_way;
  before = exclusive;
  item = transaction 3 32 false 2 (Some 1) None letters.S;
  field = fields.Di;
  found = founds.Nothing;
}

-- A modified one is supplied by its cache.
abbrev pub main_memory_supplies : WorkedItem
main_memory_supplies = record {
  shape = one_way;
  before = modified;
  item = transaction 3 32 false 2 None None letters.S;
  field = fields.Di;
  found = founds.Number 1;
}

-- And an owned one by its owner.
abbrev pub copy_supplies : WorkedItem
copy_supplies = record {
  shape = three_cores;
  before = owned;
  item = transaction 5 32 false 10 (Some 3) None letters.S;
  field = fields.Di;
  found = founds.Number 1;
}

-- The line that was filled first makes room.
abbrev pub second_filled_makes_room : WorkedItem
second_filled_makes_room = record {
  shape = two_ways;
  before = exclusive ++ transaction 1 33 false 0 None None letters.E ∷ [];
  item = transaction 1 34 false 0 None (Some 33) letters.E;
  field = fields.Victim;
  found = founds.Number 32;
}

-- One does where there is no room.
abbrev pub nothing_makes_room : WorkedItem
nothing_makes_room = record {
  shape = one_way;
  before = exclusive;
  item = transaction 1 33 false 0 None None letters.E;
  field = fields.Victim;
  found = founds.Number 32;
}

-- None does where there is room.
abbrev pub victim_beside_room : WorkedItem
victim_beside_room = record {
  shape = two_ways;
  before = exclusive;
  item = transaction 1 33 false 0 None (Some 32) letters.E;
  field = fields.Victim;
  found = founds.Nothing;
}

-- What another cache holds is shared.
abbrev pub exclusive_beside_a_copy : WorkedItem
exclusive_beside_a_copy = record {
  shape = one_way;
  before = exclusive;
  item = transaction 3 32 false 2 None None letters.E;
  field = fields.Letter;
  found = founds.Letter letters.S;
}

-- What no other cache holds is exclusive.
abbrev pub shared_alone : WorkedItem
shared_alone = record {
  shape = one_way;
  before = [];
  item = transaction 1 32 false 0 None None letters.S;
  field = fields.Letter;
  found = founds.Letter letters.E;
}

-- What is read to store to it is modified.
abbrev pub owned_by_a_store : WorkedItem
owned_by_a_store = record {
  shape = one_way;
  before = [];
  item = transaction 1 32 true 0 None None letters.O;
  field = fields.Letter;
  found = founds.Letter letters.M;
}

-- A line that was never there isn't loaded from.
abbrev pub load_of_another_line : WorkedItem
load_of_another_line = record {
  shape = one_way;
  before = exclusive;
  item = access 0 0 Lw 264 0 None;
  field = fields.Letter;
  found = founds.Letter letters.I;
}

-- Nor is one that another core's data cache has.
abbrev pub load_from_another_core : WorkedItem
load_from_another_core = record {
  shape = one_way;
  before = exclusive;
  item = access 1 0 Lw 256 0 None;
  field = fields.Letter;
  found = founds.Letter letters.I;
}

-- Nor one that the core's instruction cache has.
abbrev pub load_from_the_instruction_cache : WorkedItem
load_from_the_instruction_cache = record {
  shape = one_way;
  before = fetched;
  item = access 0 0 Lw 0 0 None;
  field = fields.Letter;
  found = founds.Letter letters.I;
}

-- A shared line isn't stored to.
abbrev pub store_to_a_shared_line : WorkedItem
store_to_a_shared_line = record {
  shape = one_way;
  before = shared;
  item = access 0 0 Sw 256 0 (Some 7);
  field = fields.Letter;
  found = founds.Letter letters.S;
}

-- Nor is an owned one compared in, though nothing is stored.
abbrev pub compare_in_an_owned_line : WorkedItem
compare_in_an_owned_line = record {
  shape = one_way;
  before = owned;
  item = access 0 1 Cas 256 7 None;
  field = fields.Letter;
  found = founds.Letter letters.O;
}

-- The intent to modify is told before the line.
abbrev pub fetch_to_modify_behind_the_code : WorkedItem
fetch_to_modify_behind_the_code = record {
  shape = one_way;
  before = [];
  item = transaction 0 1 true 0 None None letters.M;
  field = fields.Im;
  found = founds.Number 0;
}

-- It is told before the letter that was held.
abbrev pub fetch_to_modify_what_is_held : WorkedItem
fetch_to_modify_what_is_held = record {
  shape = one_way;
  before = fetched;
  item = transaction 0 0 true 0 None None letters.M;
  field = fields.Im;
  found = founds.Number 0;
}

-- The line is told before those that held it, the supplier, the victim and the letter.
abbrev pub all_behind_the_line : WorkedItem
all_behind_the_line = record {
  shape = one_way;
  before = exclusive;
  item = transaction 0 1 false 5 (Some 1) (Some 3) letters.M;
  field = fields.Line;
  found = founds.Nothing;
}

-- So is the letter that was held.
abbrev pub all_behind_what_is_held : WorkedItem
all_behind_what_is_held = record {
  shape = one_way;
  before = exclusive;
  item = transaction 1 32 false 8 (Some 3) (Some 3) letters.I;
  field = fields.Held;
  found = founds.Letter letters.E;
}

-- Those that held it are told before the supplier, the victim and the letter.
abbrev pub all_from_the_holders : WorkedItem
all_from_the_holders = record {
  shape = one_way;
  before = exclusive;
  item = transaction 3 32 false 0 (Some 1) (Some 3) letters.M;
  field = fields.Ch;
  found = founds.Set 2;
}

-- The supplier is told before the victim and the letter.
abbrev pub all_from_the_supplier : WorkedItem
all_from_the_supplier = record {
  shape = one_way;
  before = exclusive;
  item = transaction 3 32 false 2 (Some 1) (Some 3) letters.M;
  field = fields.Di;
  found = founds.Nothing;
}

-- The victim is told before the letter.
abbrev pub all_from_the_victim : WorkedItem
all_from_the_victim = record {
  shape = one_way;
  before = exclusive;
  item = transaction 3 32 false 2 None (Some 3) letters.M;
  field = fields.Victim;
  found = founds.Nothing;
}

abbrev pub worked_items : List WorkedItem
worked_items =
    fetch_to_modify ∷ fetch_behind_the_code
    ∷ read_of_a_copy ∷ read_of_an_owned_line ∷ upgrade_of_an_exclusive_line ∷ upgrade_of_a_modified_line
    ∷ holder_is_not_told ∷ one_holder_is_not_told ∷ nobody_holds_it
    ∷ clean_copy_supplies ∷ main_memory_supplies ∷ copy_supplies
    ∷ second_filled_makes_room ∷ nothing_makes_room ∷ victim_beside_room
    ∷ exclusive_beside_a_copy ∷ shared_alone ∷ owned_by_a_store
    ∷ load_of_another_line ∷ load_from_another_core ∷ load_from_the_instruction_cache
    ∷ store_to_a_shared_line ∷ compare_in_an_owned_line
    ∷ fetch_to_modify_behind_the_code ∷ fetch_to_modify_what_is_held
    ∷ all_behind_the_line ∷ all_behind_what_is_held ∷ all_from_the_holders
    ∷ all_from_the_supplier ∷ all_from_the_victim ∷ []

-- What the letters behind its history tell of an item.
abbrev pub illegal_behind : WorkedItem → Option Illegal
illegal_behind worked =
    let caches = all_with moesi worked.shape.sets worked.shape.ways in
    illegal_in caches worked.shape.cores worked.shape.code_lines (letters_after caches no_letters worked.before) worked.item

abbrev pub due_of : WorkedItem → Option Illegal
due_of worked = Some (record { field = worked.field; found = worked.found })

pub record WorkedItemsAreTold : Type 0 where
  pub follows : AllByRecursion (λ (worked : WorkedItem). FollowsIn worked.shape worked.before) worked_items
  pub told : map illegal_behind worked_items ≡ map due_of worked_items
