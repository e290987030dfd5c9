-- The worked histories follow the letters, and the wrong ones don't.
use Rattle.std.proofs.Common.{◌≡◌, Bool, true, false, List, [], ◌∷◌, ◌++◌, refl}
use Rattle.std.specs.Prelude.{◌&&◌, not}
use Rattle.std.specs.List.{AllByRecursion, list_all}
use Rattle.std.proofs.lemmas.Bool.{and_parts, not-true, both_ways}
use Rattle.access_log.specs.declared.Item.{Item}
use Rattle.letters.specs.Caches.{moesi, all_with}
use Rattle.letters.specs.Fold.{no_letters}
use Rattle.letters.specs.Histories.{Shape, FollowsIn}
use Rattle.letters.specs.Worked.{History, worked_histories, WorkedHistoriesFollow}
use Rattle.letters.specs.Wrong.{Fork, IsTold, wrong_histories, WrongHistoriesDontFollow}
use Rattle.letters.proofs.DecidingLaws.{follows_from}
use Rattle.letters.proofs.DecidedLaws.{follows-true, follows-from}

abbrev follows_in : Shape → List Item → Bool
follows_in shape items = follows_from (all_with moesi shape.sets shape.ways) shape.cores shape.code_lines no_letters items

follows : (shape : Shape) (items : List Item) → follows_in shape items ≡ true → FollowsIn shape items
follows shape items is =
    follows-true (all_with moesi shape.sets shape.ways) shape.cores shape.code_lines no_letters items is

refused : (shape : Shape) (items : List Item) → follows_in shape items ≡ false → FollowsIn shape items → ⊥
refused shape items isnt h =
    both_ways (follows_in shape items) isnt
    (follows-from (all_with moesi shape.sets shape.ways) shape.cores shape.code_lines no_letters items h)

all_follow : (histories : List History) → list_all (λ (h : History). follows_in h.shape h.items) histories ≡ true
    → AllByRecursion (λ (h : History). FollowsIn h.shape h.items) histories
all_follow [] h = tt
all_follow (history ∷ histories) h =
    let parts = and_parts (follows_in history.shape history.items) (list_all (λ (h : History). follows_in h.shape h.items) histories) h in
    (follows history.shape history.items parts.0, all_follow histories parts.1)

abbrev is_told : Fork → Bool
is_told fork = follows_in fork.shape (fork.before ++ fork.right) && not (follows_in fork.shape (fork.before ++ fork.wrong))

all_told : (forks : List Fork) → list_all is_told forks ≡ true → AllByRecursion IsTold forks
all_told [] h = tt
all_told (fork ∷ forks) h =
    let parts = and_parts (is_told fork) (list_all is_told forks) h in
    let both = and_parts (follows_in fork.shape (fork.before ++ fork.right)) (not (follows_in fork.shape (fork.before ++ fork.wrong)))
    parts.0 in (
      (
        follows fork.shape (fork.before ++ fork.right) both.0,
        refused fork.shape (fork.before ++ fork.wrong) (not-true (follows_in fork.shape (fork.before ++ fork.wrong)) both.1),
      ),
      all_told forks parts.1,
    )

pub worked-follow : WorkedHistoriesFollow
worked-follow = all_follow worked_histories refl

pub wrong-dont_follow : WrongHistoriesDontFollow
wrong-dont_follow = all_told wrong_histories refl
