use Rattle.std.proofs.Common.{arith, ◌+◌, ap, sym, ◌∙◌}
use Rattle.std.specs.Prelude.{get_or, not}
use Rattle.std.proofs.lemmas.Option.{slice_get-get_or}
use Rattle.core_run.proofs.DrawLemmas.{count-on, count-off}
use Rattle.core_run.proofs.seeded.count_running.Goals.{then-is_none, else-is_none}
use Rattle.core_run.proofs.seeded.count_running.Goals as goal

pub loop-index-preserved : goal.loop-index-preserved
loop-index-preserved g c =
    let l = c.loop-index in
    let slots = c.args.slots.now in
    let s = get_or slots l.index c.index-slots-index.result in
    let got = slice_get-get_or slots l.index c.index-slots-index.result c.loop-index-test.true in
    let count = l.invariant.count in
    let few = l.invariant.few in
    elim c.if-is_none.branch [
      | then-is_none w ↦
          (let more = count-on slots l.index s got (c.is_none.ensures ∙ ap not w.if-is_none.true) in
          let is = w.count-is in
          record { count = is ∙ (ap (λ n. n + 1) count ∙ sym more); few = omega (arith, is, few) })
      | else-is_none w ↦
          (let same = count-off slots l.index s got (c.is_none.ensures ∙ ap not w.if-is_none.false) in
          let is = w.count-is in
          record { count = is ∙ (count ∙ sym same); few = omega (arith, is, few) })
    ]
