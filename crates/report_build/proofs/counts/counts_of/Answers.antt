use Rattle.std.proofs.Common.{◌++◌, arith, List, [], ◌∷◌, ℕ}
use Rattle.std.specs.List.{AllByRecursion}
use Rattle.std.proofs.lemmas.List.Elements.{All-from_recursion}
use Rattle.std_laws.proofs.ListLaws.{AllByRecursion-append}
use Rattle.report_rows.specs.Bounds.{IsCount}
use Rattle.report_build.proofs.counts.counts_of.Goals as goal

pub returns-clause-fit : goal.returns-clause-fit
returns-clause-fit c =
    let done = c.count_accesses-accesses.result in
    let bus = c.in_ok-bus.bus in
    let waited = c.all_waits-waits.result in
    let accesses : List ℕ = c.retired.result ∷ done.loads ∷ done.stores ∷ done.compare_and_swaps ∷ done.swaps ∷ [] in
    let transactions : List ℕ = bus.transactions ∷ bus.exclusive ∷ bus.owned ∷ bus.upgrades ∷ bus.flushes ∷ [] in
    let waits : List ℕ = waited.fetch ∷ waited.operand ∷ waited.access ∷ [] in
    let first : AllByRecursion IsCount accesses = (omega arith, (omega arith, (omega arith, (omega arith, (omega arith, tt))))) in
    let middle : AllByRecursion IsCount transactions = (omega arith, (omega arith, (omega arith, (omega arith, (omega arith, tt))))) in
    let last : AllByRecursion IsCount waits = (omega arith, (omega arith, (omega arith, tt))) in
    All-from_recursion IsCount (accesses ++ transactions ++ waits) (AllByRecursion-append IsCount (accesses ++ transactions) waits
    (AllByRecursion-append IsCount accesses transactions first middle) last)
