-- What a reader answers, against what reading gives.
use Rattle.std.specs.Prelude.{ℕ, List, Result}
use Rattle.std.specs.Borrow.{Bor}
use Rattle.kmp_base.specs.declared.fault.Fault.{Fault}
use Rattle.kmp_base.specs.Gives.{FailsAs, GivesAs}
use Rattle.row_reader.specs.Rows.{Rows, rows_of}

-- the rows at which reading is stuck, by the text that is told
abbrev pub stuck_rows : Bor (List ℕ) → Rows
stuck_rows text = rows_of text.now

-- reading is stuck at the rows of the text that is told; want of memory says nothing of the rows
abbrev pub Fails : {Y : Type 0} → Fault (Bor (List ℕ)) → Result Y Rows → Type 0
Fails stuck read = FailsAs stuck_rows stuck read

-- what a function returned, seen by view, is what reading gives, unless memory ran out
abbrev pub Gives : {X Y : Type 0} → (X → Y) → Result X (Fault (Bor (List ℕ))) → Result Y Rows → Type 0
Gives view result read = GivesAs view stuck_rows result read
