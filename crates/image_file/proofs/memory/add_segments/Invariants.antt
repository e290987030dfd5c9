use Rattle.std.proofs.Common.{◌≡◌, ◌*◌, vec_len, drop}
use Rattle.image_file.specs.Value.{with_segments, AreApart}
use Rattle.image_file.proofs.memory.add_segments.Given as goal

abbrev pub invariant-loop-segment : goal.invariant-loop-segment
invariant-loop-segment l = record {
  apart : AreApart (4 * vec_len l.memory) (4 * l.words) (drop l.segment-index l.segments);
  rest : with_segments l.memory.items (drop l.segment-index l.segments) ≡ with_segments l.fn.memory.items l.segments;
}
