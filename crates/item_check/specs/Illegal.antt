-- What the letters make due in each field of an item, and the first field in which an item has something else.
use Rattle.std.specs.Prelude.{◌≡◌, ℕ, ◌*◌, ◌%◌, ◌<◌, Bool, true, false, ◌==◌, not, ◌||◌, nat_lt, if◌then◌else◌}
use Rattle.std.specs.Prelude.{List, [], ◌∷◌, Option, Some, None}
use Rattle.access_log.specs.declared.Letter.{Letter}
use Rattle.access_log.specs.declared.Letter.TheVariants.{M, O, E, S, I}
use Rattle.access_log.specs.declared.Entry.{Entry}
use Rattle.access_log.specs.declared.Transaction.{Transaction}
use Rattle.access_log.specs.declared.Item.{Item}
use Rattle.access_log.specs.declared.Item.TheVariants.{Done, Bus}
use Rattle.access_log.specs.declared.field.Field.{Field}
use Rattle.access_log.specs.declared.field.Field.TheVariants as fields
use Rattle.access_log.specs.declared.field.Found.{Found}
use Rattle.access_log.specs.declared.field.Found.TheVariants as founds
use Rattle.access_log.specs.Memory.{is_same_word}
use Rattle.moesi_master.specs.Moesi.{is_hit, suffices}
use Rattle.item_check.specs.declared.Illegal.{Illegal}
use Rattle.letters.specs.Caches.{Caches}
use Rattle.letters.specs.Fold.{LettersValue, cache_of, line_of, holders, supplier_of, victim_of, FollowsFrom}

-- A field, what is due there, and whether the item has it.
pub record Due : Type 0 where
  pub field : Field
  pub found : Found
  pub is_met : Bool

-- The first field that isn't as is due.
abbrev pub first_difference : List Due → Option Illegal
first_difference [] = None
first_difference (due ∷ more) = if due.is_met then first_difference more else Some (record { field = due.field; found = due.found })

abbrev pub is_same_letter : Letter → Letter → Bool
is_same_letter M M = true
is_same_letter O O = true
is_same_letter E E = true
is_same_letter S S = true
is_same_letter I I = true
is_same_letter a b = false

-- A number, or nothing.
abbrev pub found_optional : Option ℕ → Found
found_optional None = founds.Nothing
found_optional (Some n) = founds.Number n

abbrev pub reads_code : Transaction → Bool
reads_code bus = bus.master % 2 == 0

-- The fields of a transaction, in their order.
abbrev pub im_due : Transaction → Due
im_due bus = record { field = fields.Im; found = founds.Number 0; is_met = not (reads_code bus) || not bus.im }

abbrev pub line_due : ℕ → Transaction → Due
line_due code_lines bus =
    record { field = fields.Line; found = founds.Nothing; is_met = not (reads_code bus) || nat_lt bus.line code_lines }

-- The master's letter before, which is told where it needs no transaction.
abbrev pub held_due : Letter → Transaction → Due
held_due letter bus = record { field = fields.Held; found = founds.Letter letter; is_met = not (suffices letter bus.im) }

abbrev pub ch_due : ℕ → Transaction → Due
ch_due holders bus = record { field = fields.Ch; found = founds.Set holders; is_met = bus.ch == holders }

abbrev pub di_due : Option ℕ → Transaction → Due
di_due supplier bus = record { field = fields.Di; found = found_optional supplier; is_met = is_same_word bus.di supplier }

abbrev pub victim_due : Option ℕ → Transaction → Due
victim_due victim bus = record { field = fields.Victim; found = found_optional victim; is_met = is_same_word bus.victim victim }

abbrev pub letter_due : Letter → Transaction → Due
letter_due letter bus = record { field = fields.Letter; found = founds.Letter letter; is_met = is_same_letter bus.letter letter }

abbrev pub transaction_dues : Caches → ℕ → ℕ → LettersValue → Transaction → List Due
transaction_dues caches cores code_lines letters bus =
    im_due bus
    ∷ line_due code_lines bus
    ∷ held_due (letters.letter bus.master bus.line) bus
    ∷ ch_due (holders letters.letter bus.master bus.line (2 * cores)) bus
    ∷ di_due (supplier_of letters.letter bus.master bus.line (2 * cores)) bus
    ∷ victim_due (victim_of caches.ways (letters.letter bus.master bus.line) (letters.filled bus.master (bus.line % caches.sets))) bus
    ∷ letter_due ((caches.protocol bus.master).after_finish bus.im bus.ch) bus
    ∷ []

-- The field of an entry: the letter of its core's data cache, which is told where the access is no hit.
abbrev pub entry_due : Letter → Entry → Due
entry_due letter entry = record { field = fields.Letter; found = founds.Letter letter; is_met = is_hit letter entry.kind }

abbrev pub dues : Caches → ℕ → ℕ → LettersValue → Item → List Due
dues caches cores code_lines letters (Done entry) = entry_due (letters.letter (cache_of entry) (line_of entry)) entry ∷ []
dues caches cores code_lines letters (Bus bus) = transaction_dues caches cores code_lines letters bus

-- What is broken by an item, if anything is.
abbrev pub illegal_in : Caches → ℕ → ℕ → LettersValue → Item → Option Illegal
illegal_in caches cores code_lines letters item = first_difference (dues caches cores code_lines letters item)

-- An item of so many cores.
abbrev pub IsOfCores : ℕ → Item → Type 0
IsOfCores cores (Done entry) = entry.core < cores
IsOfCores cores (Bus bus) = bus.master < 2 * cores

-- Something is broken exactly where the letters don't allow the item.
pub record IllegalIsNotAllowed : Type 0 where
  pub allowed : (caches : Caches) (cores code_lines : ℕ) (letters : LettersValue) (item : Item)
      → FollowsFrom caches cores code_lines letters (item ∷ []) → illegal_in caches cores code_lines letters item ≡ None
  pub legal : (caches : Caches) (cores code_lines : ℕ) (letters : LettersValue) (item : Item) → IsOfCores cores item
      → illegal_in caches cores code_lines letters item ≡ None → FollowsFrom caches cores code_lines letters (item ∷ [])
