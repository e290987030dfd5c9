-- The names of what is one of a few.
use Rattle.std.specs.Prelude.{ℕ, List, codes}
use Rattle.mips_isa.specs.declared.Kind.{Kind}
use Rattle.mips_isa.specs.declared.Kind.TheVariants as kinds
use Rattle.mips_isa.specs.declared.Stop.{Stop}
use Rattle.mips_isa.specs.declared.Stop.TheVariants as stops

abbrev pub kind_name : Kind → List ℕ
kind_name kinds.Fetch = codes "fetch"
kind_name kinds.Lw = codes "lw"
kind_name kinds.Sw = codes "sw"
kind_name kinds.Cas = codes "cas"

abbrev pub stop_name : Stop → List ℕ
stop_name stops.OffCode = codes "offcode"
stop_name stops.Halt = codes "halt"
stop_name stops.Misaligned = codes "misaligned"
stop_name stops.Outside = codes "outside"
stop_name stops.CodeWrite = codes "codewrite"
