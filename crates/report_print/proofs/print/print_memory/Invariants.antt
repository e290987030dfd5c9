use Rattle.std.proofs.Common.{take, map}
use Rattle.std.specs.Prelude.{Ok}
use Rattle.report_rows.specs.Rows.{memory_row}
use Rattle.kmp_base.specs.Rows.{text_of}
use Rattle.kmp_base.specs.Streams.{Writes}
use Rattle.kmp_base.specs.declared.transfer.WriteFault.{WriteFault}
use Rattle.report_print.proofs.print.print_memory.Given as goal

abbrev pub invariant-loop-word : goal.invariant-loop-word
invariant-loop-word g l =
    Writes {T = Unit {0}} {E = WriteFault} g.K.Sink.held g.K.Sink.faults l.initial.sink l.sink (Ok tt)
    (text_of (map memory_row (take l.word-index l.words)))
