-- Behind one row more, the rows of accesses have their clocks still.
use Rattle.std.proofs.Common.{◌<◌, ◌∙◌, List, [], ◌∷◌, ◌++◌, length}
use Rattle.std.specs.List.{AllByRecursion}
use Rattle.std.proofs.lemmas.Option.{slice_get_within}
use Rattle.std_laws.proofs.ListLaws.{slice_get-append_left}
use Rattle.access_log.specs.Stamps.{Stamp}
use Rattle.timetable.specs.declared.rows.TimeRow.{TimeRow}
use Rattle.pipe_core.specs.PipeRun.{HasClock}

clock-stays : (rows : List TimeRow) (row : TimeRow) (stamp : Stamp) → HasClock rows stamp → HasClock (rows ++ row ∷ []) stamp
clock-stays rows row stamp h =
    let within : stamp.entry.nth < length rows = slice_get_within rows stamp.entry.nth h.0 h.1.0 in
    (h.0, (slice_get-append_left rows (row ∷ []) stamp.entry.nth within ∙ h.1.0, h.1.1))

pub clocks-stay : (rows : List TimeRow) (row : TimeRow) (stamps : List Stamp) → AllByRecursion (HasClock rows) stamps
    → AllByRecursion (HasClock (rows ++ row ∷ [])) stamps
clocks-stay rows row [] h = tt
clocks-stay rows row (stamp ∷ stamps) h = (clock-stays rows row stamp h.0, clocks-stay rows row stamps h.1)
