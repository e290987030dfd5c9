-- The worked items are told.
use Rattle.std.proofs.Common.{◌≡◌, Bool, true, List, [], ◌∷◌, refl}
use Rattle.std.specs.List.{AllByRecursion, list_all}
use Rattle.std.proofs.lemmas.Bool.{and_parts}
use Rattle.letters.specs.Caches.{Caches, moesi, all_with}
use Rattle.letters.specs.Fold.{no_letters}
use Rattle.letters.specs.Histories.{FollowsIn}
use Rattle.letters.proofs.DecidingLaws.{follows_from}
use Rattle.letters.proofs.DecidedLaws.{follows-true}
use Rattle.item_check.specs.WorkedItems.{WorkedItem, worked_items, WorkedItemsAreTold}

abbrev caches_of : WorkedItem → Caches
caches_of worked = all_with moesi worked.shape.sets worked.shape.ways

abbrev follows : WorkedItem → Bool
follows worked = follows_from (caches_of worked) worked.shape.cores worked.shape.code_lines no_letters worked.before

all_follow : (items : List WorkedItem) → list_all follows items ≡ true
    → AllByRecursion (λ (worked : WorkedItem). FollowsIn worked.shape worked.before) items
all_follow [] h = tt
all_follow (worked ∷ more) h =
    let parts = and_parts (follows worked) (list_all follows more) h in
    let here = follows-true (caches_of worked) worked.shape.cores worked.shape.code_lines no_letters worked.before parts.0 in
    (here, all_follow more parts.1)

pub worked-told : WorkedItemsAreTold
worked-told = record { follows = all_follow worked_items refl; told = refl }
