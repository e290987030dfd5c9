-- The rows of verdicts.
use Rattle.std.specs.Prelude.{ℕ, List, [], ◌∷◌, ◌++◌, codes, decimal, Some, None}
use Rattle.kmp_base.specs.Rows.{row_text}
use Rattle.kmp_base.specs.Text.{hex8, hex4}
use Rattle.access_log.specs.Names.{field_name, letter_name}
use Rattle.access_log.specs.declared.field.Found.{Found}
use Rattle.access_log.specs.declared.field.Found.TheVariants as founds
use Rattle.mips_isa.specs.Names.{kind_name, stop_name}
use Rattle.timetable.specs.declared.End.TheVariants as ends
use Rattle.timetable.specs.Names.{end_name}
use Rattle.row_check.specs.declared.difference.Difference.{Difference}

-- what stands in a field; `-` for none
abbrev pub found_text : Found → List ℕ
found_text (founds.Number n) = decimal n
found_text (founds.Hex word) = hex8 word
found_text (founds.Kind kind) = kind_name kind
found_text (founds.Letter letter) = letter_name letter
found_text (founds.End (Some stop)) = stop_name stop
found_text (founds.End None) = end_name ends.Spent
found_text (founds.Word addr value) = hex8 addr ++ codes ":" ++ hex8 value
found_text (founds.Set caches) = hex4 caches
found_text founds.Nothing = codes "-"

-- a report that is right
abbrev pub agrees_row : List ℕ
agrees_row = row_text (codes "replay" ∷ codes "agrees" ∷ [])

-- the first difference of another
abbrev pub difference_row : Difference → List ℕ
difference_row difference = row_text (
    codes "replay" ∷ codes "differs" ∷ codes "line" ∷ decimal difference.line
    ∷ codes "field" ∷ field_name difference.field
    ∷ codes "kept" ∷ found_text difference.kept
    ∷ codes "found" ∷ found_text difference.found ∷ [])
