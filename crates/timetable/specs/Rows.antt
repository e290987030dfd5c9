-- Rows as contracts see them: the list, and the number that there is room for beside it.
use Rattle.std.specs.Prelude.{ℕ, List}
use Rattle.timetable.specs.declared.rows.TimeRow.{TimeRow}

pub record RowsValue : Type 0 where
  pub rows : List TimeRow
  pub spare : ℕ
