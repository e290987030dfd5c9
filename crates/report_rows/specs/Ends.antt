-- The end of a core as a report tells it.
use Rattle.std.specs.Prelude.{ℕ, List}
use Rattle.mips_isa.specs.declared.CoreState.{CoreState}
use Rattle.timetable.specs.declared.End.{End}
use Rattle.timetable.specs.declared.CoreEnd.{CoreEnd}
use Rattle.timetable.specs.declared.rows.TimeRow.{TimeRow}

-- It tells the rows of the timetable, and not the room for more of them.
pub record EndValue : Type 0 where
  pub end : End
  pub cycles : ℕ
  pub retired : ℕ
  pub state : CoreState
  pub rows : List TimeRow

abbrev pub end_value : CoreEnd → EndValue
end_value ended = record { end = ended.end; cycles = ended.cycles; retired = ended.retired; state = ended.state; rows = ended.rows.rows }
