-- A history that follows the letters does so in both of its parts.
use Rattle.std.proofs.Common.{ℕ, List, [], ◌∷◌, ◌++◌}
use Rattle.access_log.specs.declared.Item.{Item}
use Rattle.access_log.specs.declared.Item.TheVariants.{Done, Bus}
use Rattle.letters.specs.Caches.{Caches}
use Rattle.letters.specs.Fold.{LettersValue, after_entry, after_transaction, letters_after, FollowsFrom}

module _ (caches : Caches) (cores code_lines : ℕ) where
  pub FollowsFrom-front : (letters : LettersValue) (xs ys : List Item) → FollowsFrom caches cores code_lines letters (xs ++ ys)
      → FollowsFrom caches cores code_lines letters xs
  FollowsFrom-front letters [] ys h = tt
  FollowsFrom-front letters (Done entry ∷ xs) ys h = (h.0, FollowsFrom-front (after_entry letters entry) xs ys h.1)
  FollowsFrom-front letters (Bus bus ∷ xs) ys h = (h.0, FollowsFrom-front (after_transaction caches letters bus) xs ys h.1)

  pub FollowsFrom-rest : (letters : LettersValue) (xs ys : List Item) → FollowsFrom caches cores code_lines letters (xs ++ ys)
      → FollowsFrom caches cores code_lines (letters_after caches letters xs) ys
  FollowsFrom-rest letters [] ys h = h
  FollowsFrom-rest letters (Done entry ∷ xs) ys h = FollowsFrom-rest (after_entry letters entry) xs ys h.1
  FollowsFrom-rest letters (Bus bus ∷ xs) ys h = FollowsFrom-rest (after_transaction caches letters bus) xs ys h.1
