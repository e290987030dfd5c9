-- Ends, and the same as a report tells them.
use Rattle.std.proofs.Common.{◌≡◌, List, map, sym}
use Rattle.std.specs.List.{list_all}
use Rattle.std.proofs.lemmas.List.Folds.{list_all-map}
use Rattle.timetable.specs.declared.CoreEnd.{CoreEnd}
use Rattle.timetable.specs.Outcome.{is_halt}
use Rattle.report_rows.specs.Ends.{EndValue, end_value}

pub halts_told : (ends : List CoreEnd)
    → list_all (λ (core : CoreEnd). is_halt core.end) ends ≡ list_all (λ (core : EndValue). is_halt core.end) (map end_value ends)
halts_told ends = sym (list_all-map (λ (core : EndValue). is_halt core.end) end_value ends)
