-- The names of letters, and of the fields of a report's rows.
use Rattle.std.specs.Prelude.{ℕ, List, codes}
use Rattle.access_log.specs.declared.field.Field.{Field}
use Rattle.access_log.specs.declared.field.Field.TheVariants as fields
use Rattle.access_log.specs.declared.Letter.{Letter}
use Rattle.access_log.specs.declared.Letter.TheVariants as letters

abbrev pub letter_name : Letter → List ℕ
letter_name letters.M = codes "M"
letter_name letters.O = codes "O"
letter_name letters.E = codes "E"
letter_name letters.S = codes "S"
letter_name letters.I = codes "I"

-- the stages of a pipeline have upper-case letters
abbrev pub field_name : Field → List ℕ
field_name fields.Nth = codes "nth"
field_name fields.Kind = codes "kind"
field_name fields.Addr = codes "addr"
field_name fields.Old = codes "old"
field_name fields.New = codes "new"
field_name fields.Letter = codes "letter"
field_name fields.Im = codes "im"
field_name fields.Line = codes "line"
field_name fields.Held = codes "held"
field_name fields.Ch = codes "ch"
field_name fields.Di = codes "di"
field_name fields.Victim = codes "victim"
field_name fields.Retired = codes "retired"
field_name fields.End = codes "end"
field_name fields.Cycles = codes "cycles"
field_name fields.Rows = codes "rows"
field_name fields.Pc = codes "pc"
field_name fields.Dpc = codes "dpc"
field_name fields.Register = codes "register"
field_name fields.Word = codes "word"
field_name fields.I = codes "I"
field_name fields.F = codes "F"
field_name fields.D = codes "D"
field_name fields.E = codes "E"
field_name fields.A = codes "A"
field_name fields.M = codes "M"
field_name fields.W = codes "W"
field_name fields.Count = codes "count"
