-- When a history is right, and else its first item that isn't, and the first field in which that differs from what is due.
use Rattle.std.specs.Prelude.{◌≡◌, ◌⊎◌, ℕ, ◌+◌, if◌then◌else◌, List, ◌∷◌, ◌++◌, length, Option, Some, None}
use Rattle.kmp_base.specs.declared.setup.Setup.{Setup}
use Rattle.kmp_base.specs.declared.setup.MachineKind.{MachineKind}
use Rattle.image_file.specs.Value.{ImageValue, code_lines}
use Rattle.access_log.specs.declared.Entry.{Entry}
use Rattle.access_log.specs.declared.Transaction.{Transaction}
use Rattle.access_log.specs.declared.Item.{Item}
use Rattle.access_log.specs.declared.Item.TheVariants.{Done, Bus}
use Rattle.access_log.specs.declared.field.Field.{Field}
use Rattle.access_log.specs.declared.field.Field.TheVariants as fields
use Rattle.access_log.specs.declared.field.Found.{Found}
use Rattle.access_log.specs.declared.field.Found.TheVariants as founds
use Rattle.access_log.specs.Items.{entries}
use Rattle.access_log.specs.Replay.{FlatMachine, entered, entered_all}
use Rattle.seq_machine.specs.Differences.{DiffersFirst, found_new}
use Rattle.letters.specs.Caches.{Caches}
use Rattle.letters.specs.Fold.{no_letters, letters_after}
use Rattle.item_check.specs.Illegal.{illegal_in}
use Rattle.item_check.specs.declared.Illegal.{Illegal}
use Rattle.row_check.specs.declared.difference.Difference.{Difference}
use Rattle.row_check.specs.Judgments.{found_optional}
use Rattle.right_run.specs.Right.{caches_on, FollowsOn}

-- The sequential machine makes the accesses of a history, up to this state, and the letters allow its items.
pub record HistoryIsRight (setup : Setup) (image : ImageValue) (items : List Item) (machine there : FlatMachine) : Type 0 where
  pub made : entered_all (entries items) machine ≡ Some there
  pub follows : FollowsOn setup.machine setup image items

-- What an access keeps in a field of its row. How its core's cache held the line stands in no row.
abbrev pub kept_in_entry : Entry → Field → Found
kept_in_entry entry fields.Nth = founds.Number entry.nth
kept_in_entry entry fields.Kind = founds.Kind entry.kind
kept_in_entry entry fields.Addr = founds.Hex entry.addr
kept_in_entry entry fields.Old = founds.Hex entry.old
kept_in_entry entry fields.New = found_new entry.new
kept_in_entry entry other = founds.Nothing

-- What a transaction keeps. How its master held the line before stands in no row.
abbrev pub kept_in_transaction : Transaction → Field → Found
kept_in_transaction bus fields.Im = founds.Number (if bus.im then 1 else 0)
kept_in_transaction bus fields.Line = founds.Number bus.line
kept_in_transaction bus fields.Ch = founds.Set bus.ch
kept_in_transaction bus fields.Di = found_optional bus.di
kept_in_transaction bus fields.Victim = found_optional bus.victim
kept_in_transaction bus fields.Letter = founds.Letter bus.letter
kept_in_transaction bus other = founds.Nothing

abbrev pub kept_in : Item → Field → Found
kept_in (Done entry) field = kept_in_entry entry field
kept_in (Bus bus) field = kept_in_transaction bus field

-- What is illegal in an item behind others, by the letters of the caches. Without caches nothing is.
abbrev pub illegal_behind : Option Caches → ℕ → ℕ → List Item → Item → Option Illegal
illegal_behind None cores code_lines before item = None
illegal_behind (Some caches) cores code_lines before item =
    illegal_in caches cores code_lines (letters_after caches no_letters before) item

abbrev pub illegal_on : MachineKind → Setup → ImageValue → List Item → Item → Option Illegal
illegal_on machine setup image before item = illegal_behind (caches_on machine setup) setup.cores (code_lines image) before item

-- The access that the machine makes next differs from this entry, and first in this field.
pub record AccessDiffers (machine : FlatMachine) (entry : Entry) (field : Field) (found : Found) : Type 0 where
  pub stays : FlatMachine
  pub first : DiffersFirst machine entry (record { entry = entry; field = field; found = found }) stays

-- In an item that the machine comes to, and in which so much is illegal, this field differs first. An access is judged by the
-- machine, and where the machine makes it, by the letters; a transaction is judged by the letters alone.
abbrev pub ItemDiffers : FlatMachine → Option Illegal → Item → Field → Found → Type 0
ItemDiffers machine illegal (Done entry) field found =
    AccessDiffers machine entry field found
    ⊎ ((next : FlatMachine) × (entered entry machine ≡ Some next) × (illegal ≡ Some (record { field = field; found = found })))
ItemDiffers machine illegal (Bus bus) field found = illegal ≡ Some (record { field = field; found = found })

-- The items before one are right, and that one differs so. Each item has a line of its own.
pub record HistoryDiffers (setup : Setup) (image : ImageValue) (first_line : ℕ) (items : List Item) (machine : FlatMachine)
    (difference : Difference) : Type 0 where
  pub before : List Item
  pub item : Item
  pub later : List Item
  pub are : items ≡ before ++ item ∷ later
  pub there : FlatMachine
  pub right : HistoryIsRight setup image before machine there
  pub differs : ItemDiffers there (illegal_on setup.machine setup image before item) item difference.field difference.found
  pub line : difference.line ≡ first_line + length before
  pub kept : difference.kept ≡ kept_in item difference.field
