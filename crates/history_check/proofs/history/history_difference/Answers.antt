use Rattle.std.proofs.Common.{◌+◌, take, sym, ap, ◌∙◌, subst, arith}
use Rattle.std.proofs.lemmas.List.{take_more}
use Rattle.std.proofs.lemmas.List.Elements.{All-from_recursion}
use Rattle.image_file.specs.Value.{code_lines}
use Rattle.access_log.specs.Replay.{memory_bytes}
use Rattle.report_rows.specs.Bounds.{IsItem}
use Rattle.right_run.specs.Right.{caches_of}
use Rattle.history_check.specs.History.{HistoryIsRight}
use Rattle.history_check.specs.Checks.{AreAfter}
use Rattle.history_check.proofs.ItemLemmas.{illegal-by, after-more, right-start, right-more, differs-at}
use Rattle.history_check.proofs.history.history_difference.Goals as goal

pub loop-item-init : goal.loop-item-init
loop-item-init c = record {
  line_is = omega arith;
  cores = c.requires.cores;
  right = right-start c.args.setup.now c.args.image.now c.args.machine.now;
  letters = c.in_ok-letters.ensures.start;
}

pub returns-in-Some-clause-some : goal.returns-in-Some-clause-some
returns-in-Some-clause-some c =
    let so_far = c.loop-item.invariant in
    differs-at c.args.setup.now c.args.image.now c.args.items.now c.loop-item.item-index _ c.args.machine.now c.loop-item.machine
    c.args.first_line c.loop-item.letters c.in-Some.difference c.loop-item-test.true so_far.right so_far.letters c.in-Some.ensures.differs
    (c.in-Some.ensures.line ∙ so_far.line_is) c.in-Some.ensures.kept

pub loop-item-preserved : goal.loop-item-preserved
loop-item-preserved c =
    let setup = c.args.setup.now in
    let image = c.args.image.now in
    let items = c.args.items.now in
    let i = c.loop-item.item-index in
    let so_far = c.loop-item.invariant in
    let fits = IsItem setup.machine setup.cores (memory_bytes c.args.machine.now) in
    let more = sym (take_more items i _ c.loop-item-test.true) in
    let legal = sym (illegal-by (caches_of setup) setup.cores (code_lines image) (take i items) c.loop-item.letters _ so_far.letters)
    ∙ c.in_default.ensures.legal in
    record {
      line_is = ap (λ n. n + 1) so_far.line_is ∙ omega arith;
      cores = c.item_difference.ensures.cores;
      right = subst (λ is. HistoryIsRight setup image is c.args.machine.now c.item_difference.new.machine) more
          (right-more setup image (memory_bytes c.args.machine.now) (take i items) _ c.args.machine.now c.loop-item.machine
          c.item_difference.new.machine (All-from_recursion fits items c.requires.within i _ c.loop-item-test.true) so_far.right
          c.in_default.ensures.made legal);
      letters = subst (λ is. AreAfter (caches_of setup) setup.cores (code_lines image) is c.item_difference.new.letters) more
          (after-more (caches_of setup) setup.cores (code_lines image) (take i items) _ c.loop-item.letters c.item_difference.new.letters
          so_far.letters c.in_default.ensures.next);
    }
