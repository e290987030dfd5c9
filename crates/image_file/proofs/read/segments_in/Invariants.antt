use Rattle.std.proofs.Common.{◌≡◌, ◌-◌}
use Rattle.kmp_base.proofs.ReadingLaws.{with_front_and_rest}
use Rattle.image_file.specs.Reading.{segments_in}
use Rattle.image_file.proofs.read.segments_in.Given as goal

abbrev pub invariant-loop : goal.invariant-loop
invariant-loop l = with_front_and_rest l.segments.items (segments_in l.memory l.end (l.count - l.counter) l.rest)
    ≡ segments_in l.memory l.fn.end l.count l.bytes
