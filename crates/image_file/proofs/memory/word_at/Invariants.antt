use Rattle.std.proofs.Common.{drop}
use Rattle.image_file.proofs.WordLaws.{HasNone}
use Rattle.image_file.proofs.memory.word_at.Given as goal

abbrev pub invariant-loop-segment : goal.invariant-loop-segment
invariant-loop-segment l = HasNone l.image l.addr (drop l.segment-index l.image.segments)
