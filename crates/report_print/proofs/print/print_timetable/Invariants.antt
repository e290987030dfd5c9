use Rattle.std.proofs.Common.{take}
use Rattle.std.specs.Prelude.{Ok}
use Rattle.report_rows.specs.Rows.{rows_of_each}
use Rattle.report_print.proofs.TextLemmas.{instruction_rows}
use Rattle.kmp_base.specs.Rows.{text_of}
use Rattle.kmp_base.specs.Streams.{Writes}
use Rattle.kmp_base.specs.declared.transfer.WriteFault.{WriteFault}
use Rattle.report_print.proofs.print.print_timetable.Given as goal

abbrev pub invariant-loop-n : goal.invariant-loop-n
invariant-loop-n g l =
    Writes {T = Unit {0}} {E = WriteFault} g.K.Sink.held g.K.Sink.faults l.initial.sink l.sink (Ok tt)
    (text_of (rows_of_each (instruction_rows l.core) 0 (take l.n l.rows.rows)))
