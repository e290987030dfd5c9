use Rattle.std.proofs.Common.{◌≡◌, ◌*◌, take, drop, map}
use Rattle.std.specs.Prelude.{Ok}
use Rattle.std.specs.List.{range_with_len}
use Rattle.kmp_base.specs.Rows.{text_of}
use Rattle.kmp_base.specs.Streams.{Writes}
use Rattle.kmp_base.specs.declared.transfer.WriteFault.{WriteFault}
use Rattle.image_file.specs.Value.{image_numbers, image_bytes}
use Rattle.report_rows.specs.Rows.{bytes_row_at}
use Rattle.report_print.proofs.print.print_image_rows.Given as goal

abbrev pub invariant-loop : goal.invariant-loop
invariant-loop g l = record {
  left : l.numbers ≡ drop (8 * l.counter) (image_numbers l.image);
  writes : Writes {T = Unit {0}} {E = WriteFault} g.K.Sink.held g.K.Sink.faults l.initial.sink l.sink (Ok tt)
      (text_of (map (bytes_row_at (image_bytes l.image)) (take l.counter (range_with_len 0 l.rows))));
}
