use Rattle.std.proofs.Common.{◌∙◌, ◌++◌, length, ap, sym, arith}
use Rattle.workload_gen.specs.Source.{lines_text}
use Rattle.workload_gen.proofs.SourceLemmas.{block_next, all_moved}
use Rattle.workload_gen.proofs.SizeLaws.{source_within}
use Rattle.workload_gen.proofs.source.source_of.Goals as goal

pub loop-number-preserved : goal.loop-number-preserved
loop-number-preserved c =
    block_next c.loop-number.number c.args.size c.next_word.result c.loop-number.words c.next_word.new.self c.loop-number.text.items
    c.add_block.new.text.items _ c.loop-number-test.true c.next_word.ensures c.in_ok-add_block.ensures.lines c.loop-number.invariant

pub returns : goal.returns
returns c =
    let past = all_moved c.loop-number.number c.args.size c.loop-number.words (omega arith) in
    let whole = c.in_ok-add_tail.ensures.lines ∙ ap (λ lines. c.loop-number.text.items ++ lines_text lines) (sym past)
    ∙ c.loop-number.invariant in
    record {
      text = whole;
      short = omega (arith, ap length whole, source_within c.args.seed c.args.size c.requires, c.add_tail.new.text.ok.0);
    }
