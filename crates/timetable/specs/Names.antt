-- The names of the ends of a core.
use Rattle.std.specs.Prelude.{ℕ, List, codes}
use Rattle.mips_isa.specs.Names.{stop_name}
use Rattle.timetable.specs.declared.End.{End}
use Rattle.timetable.specs.declared.End.TheVariants as ends

abbrev pub end_name : End → List ℕ
end_name (ends.Stopped stop) = stop_name stop
end_name ends.Spent = codes "spent"
