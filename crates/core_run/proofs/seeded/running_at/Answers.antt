use Rattle.std.proofs.Common.{arith, ◌+◌, ◌≡◌, ℕ, Some, ap, sym, ◌∙◌, subst}
use Rattle.std.specs.Prelude.{get_or, not, slice_get}
use Rattle.std.proofs.lemmas.Option.{slice_get-get_or}
use Rattle.core_run.specs.Seeded.{running}
use Rattle.core_run.proofs.DrawLemmas.{count-on, count-off, position-here}
use Rattle.core_run.proofs.seeded.running_at.Goals.{then-is_none+else-before-position, else-is_none}
use Rattle.core_run.proofs.seeded.running_at.Goals as goal

pub returns-then-before-position : goal.returns-then-before-position
returns-then-before-position g c =
    let l = c.loop-core in
    let slots = c.args.slots.now in
    let s = get_or slots l.core c.index-slots-core.result in
    let got = slice_get-get_or slots l.core c.index-slots-core.result c.loop-core-test.true in
    record {
      core = subst (λ (n : ℕ). slice_get (running slots) n ≡ Some l.core) (sym l.invariant.before ∙ c.if-before-position.true)
          (position-here slots l.core s got (c.is_none.ensures ∙ ap not c.if-is_none.true) c.loop-core-test.true);
    }

pub loop-core-preserved : goal.loop-core-preserved
loop-core-preserved g c =
    let l = c.loop-core in
    let slots = c.args.slots.now in
    let s = get_or slots l.core c.index-slots-core.result in
    let got = slice_get-get_or slots l.core c.index-slots-core.result c.loop-core-test.true in
    let before = l.invariant.before in
    let within = l.invariant.within in
    elim c.if-is_none.branch [
      | then-is_none+else-before-position w ↦
          (let more = count-on slots l.core s got (c.is_none.ensures ∙ ap not w.if-is_none.true) in
          let is = w.before-is in
          let ne = w.if-before-position.false in
          record { before = is ∙ (ap (λ n. n + 1) before ∙ sym more); within = omega (arith, is, within, ne) })
      | else-is_none w ↦
          (let same = count-off slots l.core s got (c.is_none.ensures ∙ ap not w.if-is_none.false) in
          let is = w.before-is in
          record { before = is ∙ (before ∙ sym same); within = omega (arith, is, within) })
    ]
