-- How the worked histories are written.
use Rattle.std.specs.Prelude.{ℕ, Bool, List, Option, Some}
use Rattle.mips_isa.specs.declared.Kind.{Kind}
use Rattle.access_log.specs.declared.Letter.{Letter}
use Rattle.access_log.specs.declared.Item.{Item}
use Rattle.access_log.specs.declared.Item.TheVariants.{Done, Bus}
use Rattle.letters.specs.Caches.{moesi, all_with}
use Rattle.letters.specs.Fold.{Follows}

-- A machine whose caches follow MOESI: its cores, the lines of its code, and the sets and ways of each cache.
pub record Shape : Type 0 where
  pub cores : ℕ
  pub code_lines : ℕ
  pub sets : ℕ
  pub ways : ℕ

abbrev pub FollowsIn : Shape → List Item → Type 0
FollowsIn shape items = Follows (Some (all_with moesi shape.sets shape.ways)) shape.cores shape.code_lines items

-- An access: its core, the instructions that the core executed before, its kind and address, what it found and what it stored.
abbrev pub access : ℕ → ℕ → Kind → ℕ → ℕ → Option ℕ → Item
access core nth kind addr old new = Done (record { core = core; nth = nth; kind = kind; addr = addr; old = old; new = new })

-- A transaction: its master and line, the intent to modify, who held the line, who supplied it, the victim, and the letter.
abbrev pub transaction : ℕ → ℕ → Bool → ℕ → Option ℕ → Option ℕ → Letter → Item
transaction master line im ch di victim letter =
    Bus (record { master = master; line = line; im = im; ch = ch; di = di; victim = victim; letter = letter })
