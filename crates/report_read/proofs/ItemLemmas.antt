-- The items of a history that are read one after another, as a loop does.
use Rattle.std.proofs.Common.{◌≡◌, ℕ, Bool, true, false, cond, List, [], ◌∷◌, ◌++◌, Option, Some, None, Result, Ok, Err, refl, sym, ap, ◌∙◌}
use Rattle.std.specs.Prelude.{codes}
use Rattle.std.specs.Borrow.{Bor}
use Rattle.kmp_base.specs.Bind.{◌>>=◌}
use Rattle.kmp_base.specs.declared.fault.Fault.{Fault}
use Rattle.kmp_base.specs.declared.setup.MachineKind.{MachineKind}
use Rattle.kmp_base.proofs.ReadingLaws.{with_front_and_rest, all_read_and_rest, first_and_more, first_is_read, first_fails}
use Rattle.access_log.specs.declared.Entry.{Entry}
use Rattle.access_log.specs.declared.Transaction.{Transaction}
use Rattle.access_log.specs.declared.Item.{Item}
use Rattle.access_log.specs.declared.Item.TheVariants.{Done, Bus}
use Rattle.row_reader.specs.Rows.{Row, Rows}
use Rattle.row_reader.specs.Reading.{chosen}
use Rattle.row_reader.specs.Gives.{stuck_rows, Fails}
use Rattle.report_row_reader.specs.Reading.{entry_row_of, bus_row_of, is_item, item_row_of}
use Rattle.report_read.specs.Reading.{item_at, items_at}

module _ (machine : MachineKind) (cores bytes : ℕ) where
  -- ---- the first row

  module _ (rows more : Rows) (parts : Row) where
    module _ (are : rows ≡ (codes "A" ∷ parts) ∷ more) where
      pub entry_first : (entry : Entry) → entry_row_of cores bytes (codes "A" ∷ parts) ≡ Some entry
          → item_at machine cores bytes rows ≡ Ok (Some (Done entry, more))
      unfolding item_row_of
      entry_first entry is = rw (are, is) refl

      pub entry_stuck : entry_row_of cores bytes (codes "A" ∷ parts) ≡ None → item_at machine cores bytes rows ≡ Err rows
      unfolding item_row_of
      entry_stuck is = rw (are, is) refl

    module _ (are : rows ≡ (codes "B" ∷ parts) ∷ more) where
      pub bus_first : (bus : Transaction) → bus_row_of machine cores bytes (codes "B" ∷ parts) ≡ Some bus
          → item_at machine cores bytes rows ≡ Ok (Some (Bus bus, more))
      unfolding item_row_of
      bus_first bus is = rw (are, is) refl

      pub bus_stuck : bus_row_of machine cores bytes (codes "B" ∷ parts) ≡ None → item_at machine cores bytes rows ≡ Err rows
      unfolding item_row_of
      bus_stuck is = rw (are, is) refl

  -- ---- all that stand first

  -- the first item, where there is one, and the items behind it
  abbrev first_of : Option (Item × Rows) → List Item
  first_of None = []
  first_of (Some p) = p.0 ∷ []

  abbrev others_of : Rows → Option (Item × Rows) → Result (List Item × Rows) Rows
  others_of rows None = Ok ([], rows)
  others_of rows (Some p) = items_at machine cores bytes p.1

  step_is : (row : Row) (rows : Rows) (is : Bool) (item : Option Item)
      → cond is (chosen item row rows >>= (λ p. items_at machine cores bytes rows >>= λ q. Ok (p.0 ∷ q.0, q.1))) (Ok ([], row ∷ rows))
      ≡ first_and_more first_of (cond is (chosen item row rows >>= λ p. Ok (Some p)) (Ok None)) (others_of (row ∷ rows))
  step_is row rows true (Some item) = refl
  step_is row rows true None = refl
  step_is row rows false item = refl

  items_first : (rows : Rows) → items_at machine cores bytes rows
      ≡ first_and_more first_of (item_at machine cores bytes rows) (others_of rows)
  items_first [] = refl
  items_first (row ∷ rows) = step_is row rows (is_item row) (item_row_of machine cores bytes row)

  module _ (rows : Rows) (front : List Item) (total : Result (List Item × Rows) Rows)
      (so_far : with_front_and_rest front (items_at machine cores bytes rows) ≡ total) where
    pub items_go_on : (item : Item) (rest : Rows) → item_at machine cores bytes rows ≡ Ok (Some (item, rest))
        → with_front_and_rest (front ++ item ∷ []) (items_at machine cores bytes rest) ≡ total
    items_go_on item rest is =
        first_is_read first_of (item_at machine cores bytes rows) (others_of rows) _ total front (Some (item, rest)) (items_first rows) is
        so_far

    pub items_done : item_at machine cores bytes rows ≡ Ok None → total ≡ Ok (front, rows)
    items_done is = all_read_and_rest front rows total (ap (with_front_and_rest front) (sym (items_first rows ∙ ended)) ∙ so_far)
      where
        ended : first_and_more first_of (item_at machine cores bytes rows) (others_of rows) ≡ Ok ([], rows)
        ended = ap (λ r. first_and_more first_of r (others_of rows)) is

    pub items_fail : (stuck : Fault (Bor (List ℕ))) → Fails stuck (item_at machine cores bytes rows) → Fails stuck total
    items_fail stuck fails =
        first_fails stuck_rows stuck first_of (item_at machine cores bytes rows) (others_of rows) _ total front (items_first rows) fails
        so_far
