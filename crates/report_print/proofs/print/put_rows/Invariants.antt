use Rattle.std.proofs.Common.{take}
use Rattle.std.specs.Prelude.{Ok}
use Rattle.std.specs.List.{flat_map}
use Rattle.kmp_base.specs.Streams.{Writes}
use Rattle.kmp_base.specs.declared.transfer.WriteFault.{WriteFault}
use Rattle.report_print.proofs.print.put_rows.Given as goal

abbrev pub invariant-loop-row : goal.invariant-loop-row
invariant-loop-row g l =
    Writes {T = Unit {0}} {E = WriteFault} g.K.Sink.held g.K.Sink.faults l.initial.sink l.sink (Ok tt)
    (flat_map (λ row. row) (take l.row-index l.rows))
