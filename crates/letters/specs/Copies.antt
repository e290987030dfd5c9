-- The copies of a line in different caches, and what a history that follows the letters makes of them.
use Rattle.std.specs.Prelude.{◌≡◌, ◌≢◌, ℕ, ◌*◌, ◌<◌, ◌≤◌, Bool, true, false, List, Some, None, is_some}
use Rattle.std.specs.List.{AllByRecursion}
use Rattle.mips_isa.specs.Kinds.{stores}
use Rattle.access_log.specs.declared.Letter.{Letter}
use Rattle.access_log.specs.declared.Letter.TheVariants.{I}
use Rattle.access_log.specs.declared.Item.{Item}
use Rattle.access_log.specs.declared.Item.TheVariants.{Done, Bus}
use Rattle.moesi_master.specs.Moesi.{is_held, is_sole, is_dirty}
use Rattle.letters.specs.Caches.{Protocol, moesi, all_with}
use Rattle.letters.specs.Fold.{FollowsFrom, letters_after, no_letters, supplier_of}

-- The copies agree in so many caches.
pub record AreConsistent (count : ℕ) (letter : ℕ → ℕ → Letter) : Type 0 where
  -- No further cache holds a line.
  pub within : (cache line : ℕ) → count ≤ cache → letter cache line ≡ I
  -- Beside the only copy there is no other.
  pub alone : (cache other line : ℕ) → is_sole (letter cache line) ≡ true → other ≢ cache → letter other line ≡ I
  -- At most one cache holds a line dirty.
  pub owner : (cache other line : ℕ) → is_dirty (letter cache line) ≡ true → is_dirty (letter other line) ≡ true → other ≡ cache

-- The tables of a protocol that keeps them so.
pub record KeepsCopies (protocol : Protocol) : Type 0 where
  -- A store leaves no other copy.
  pub gone : (letter : Letter) → protocol.after_act letter true ≡ I
  -- No other cache comes to hold a line, alone or dirty, that it didn't hold so.
  pub not_sole : (letter : Letter) (im : Bool) → is_sole (protocol.after_act letter im) ≡ false
  pub was_held : (letter : Letter) (im : Bool) → is_held (protocol.after_act letter im) ≡ true → is_held letter ≡ true
  pub was_dirty : (letter : Letter) (im : Bool) → is_dirty (protocol.after_act letter im) ≡ true → is_dirty letter ≡ true
  -- The master reads a clean copy, which is the only one only where no other cache held the line.
  pub reads_clean : (held_by : ℕ) → is_dirty (protocol.after_finish false held_by) ≡ false
  pub reads_sole : (held_by : ℕ) → is_sole (protocol.after_finish false held_by) ≡ true → held_by ≡ 0

-- An access has stored only where its kind stores.
abbrev pub StoresByKind : Item → Type 0
StoresByKind (Done entry) = is_some entry.new ≡ true → stores entry.kind ≡ true
StoresByKind (Bus bus) = Unit {0}

-- A history of caches that follow MOESI.
abbrev pub MoesiKeepsCopiesConsistent : Type 0
MoesiKeepsCopiesConsistent = (sets ways cores code_lines : ℕ) (items : List Item) → AllByRecursion StoresByKind items
    → FollowsFrom (all_with moesi sets ways) cores code_lines no_letters items
    → AreConsistent (2 * cores) (letters_after (all_with moesi sets ways) no_letters items).letter

-- Who supplies a line holds it dirty.
abbrev pub SuppliersAreDirty : Type 0
SuppliersAreDirty = (letter : ℕ → ℕ → Letter) (master line count cache : ℕ) → supplier_of letter master line count ≡ Some cache
    → (cache < count) × (cache ≢ master) × (is_dirty (letter cache line) ≡ true)

-- Where nobody supplies it, nobody else holds it dirty.
abbrev pub DirtyCachesSupply : Type 0
DirtyCachesSupply = (letter : ℕ → ℕ → Letter) (master line count : ℕ) → supplier_of letter master line count ≡ None
    → (cache : ℕ) → cache < count → cache ≢ master → is_dirty (letter cache line) ≡ false
