use Rattle.std.proofs.Common.{take}
use Rattle.std.specs.Prelude.{Ok}
use Rattle.report_rows.specs.Rows.{rows_of_each}
use Rattle.report_print.proofs.TextLemmas.{times_of}
use Rattle.kmp_base.specs.Rows.{text_of}
use Rattle.kmp_base.specs.Streams.{Writes}
use Rattle.kmp_base.specs.declared.transfer.WriteFault.{WriteFault}
use Rattle.report_print.proofs.print.print_timetables.Given as goal

abbrev pub invariant-loop-i : goal.invariant-loop-i
invariant-loop-i g l =
    Writes {T = Unit {0}} {E = WriteFault} g.K.Sink.held g.K.Sink.faults l.initial.sink l.sink (Ok tt)
    (text_of (rows_of_each times_of 0 (take l.i l.cores)))
