use Rattle.std.proofs.Common.{◌+◌, ◌/◌, drop, arith}
use Rattle.std.proofs.lemmas.Grind.{common_steps}
use Rattle.image_file.proofs.WordLaws.{code_at, segment_at, none_at}
use Rattle.image_file.proofs.memory.word_at.Goals as goal

pub returns-in-Some : goal.returns-in-Some
returns-in-Some c = grind (arith, common_steps, code_at c.args.image.now (c.args.addr / 4))

pub returns-in-Some-word_of : goal.returns-in-Some-word_of
returns-in-Some-word_of c = grind (
  arith,
  common_steps,
  segment_at c.args.image.now c.args.addr c.segment-item.result
      (drop (c.loop-segment.segment-index + 1) c.args.image.now.segments),
)

pub returns : goal.returns
returns c = grind (arith, common_steps, none_at c.args.image.now c.args.addr)
