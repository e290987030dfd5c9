-- Items are accesses or transactions.
use Rattle.std.proofs.Common.{◌≡◌, ◌+◌, List, length, [], ◌∷◌, refl, arith}
use Rattle.access_log.specs.declared.Item.{Item}
use Rattle.access_log.specs.declared.Item.TheVariants.{Done, Bus}
use Rattle.access_log.specs.Items.{entries, transactions}

pub accesses_and_transactions : (items : List Item) → length (entries items) + length (transactions items) ≡ length items
accesses_and_transactions [] = refl
accesses_and_transactions (Done entry ∷ items) = let rest = accesses_and_transactions items in omega (arith, rest)
accesses_and_transactions (Bus transaction ∷ items) = let rest = accesses_and_transactions items in omega (arith, rest)
