use Rattle.std.proofs.lemmas.List.Elements.{recursion_from_All}
use Rattle.image_file.specs.Value.{IsNumber}
use Rattle.asm_link.proofs.SegmentsLaws.{words_go_on}
use Rattle.asm_link.proofs.segments.words_before_next.Goals as goal

pub loop-left-preserved : goal.loop-left-preserved
loop-left-preserved c = record {
  words = λ known holds.
      words_go_on known c.loop-left.left.now c.statement-item.result c.loop-left.words.items c.push_data.new.words.items _
      c.in-len1-up.len_at_least c.statement-item.is c.in_default-body.not-DataAt (c.in_ok-push_data.ensures.words known holds)
      (c.loop-left.invariant.words known holds);
  fit = c.in_ok-push_data.ensures.fit c.loop-left.invariant.fit;
}

pub returns-clause-fit : goal.returns-clause-fit
returns-clause-fit c = recursion_from_All IsNumber c.loop-left.words.items c.loop-left.invariant.fit
