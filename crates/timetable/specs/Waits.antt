-- What the instructions of a timetable waited for, in cycles. A difference below 0 counts as 0.
use Rattle.std.specs.Prelude.{ℕ, ◌+◌, ◌-◌, Option, Some, None, List, [], ◌∷◌}
use Rattle.timetable.specs.declared.rows.TimeRow.{TimeRow}
use Rattle.timetable.specs.Recurrence.{greater, no_row}

-- From the clock behind the F before it to I: it waits for its word.
abbrev pub fetch_wait : TimeRow → TimeRow → ℕ
fetch_wait prior row = row.i - (prior.f + 1)

-- From the clock in which it could have left ID to D: it waits for an operand.
abbrev pub operand_wait : TimeRow → TimeRow → ℕ
operand_wait prior row = row.d - greater (row.f + 1) prior.e

-- From the clock behind E to A, where it makes an access: it waits for the answer.
abbrev pub access_wait : TimeRow → TimeRow → ℕ
access_wait prior row = answer_wait row.e row.a where
  answer_wait : ℕ → Option ℕ → ℕ
  answer_wait e None = 0
  answer_wait e (Some a) = a - (e + 1)

-- What each row waits behind the one before it, in all.
abbrev pub waited : (TimeRow → TimeRow → ℕ) → TimeRow → List TimeRow → ℕ
waited wait prior [] = 0
waited wait prior (row ∷ rows) = wait prior row + waited wait row rows

abbrev pub fetch_waits : List TimeRow → ℕ
fetch_waits rows = waited fetch_wait no_row rows

abbrev pub operand_waits : List TimeRow → ℕ
operand_waits rows = waited operand_wait no_row rows

abbrev pub access_waits : List TimeRow → ℕ
access_waits rows = waited access_wait no_row rows
