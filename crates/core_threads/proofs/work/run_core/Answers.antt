use Rattle.std.proofs.Common.{rules, ◌≡◌, ◌+◌, Bool, true, false, refl, subst, ◌∙◌, ℕ}
use Rattle.std.specs.Prelude.{Option, is_some}
use Rattle.std_laws.proofs.OptionLaws.{none_from_is_some}
use Rattle.timetable.specs.declared.End.{End}
use Rattle.core_run.specs.Running.{IsServedAt}
use Rattle.core_run.proofs.CycleLaws.{keeps-then}
use Rattle.core_run.proofs.RunningLaws.{is-on}
use Rattle.core_threads.proofs.CallLemmas.{Cycled, Next, none-yet, cycle-more, run-ended}
use Rattle.core_threads.proofs.work.run_core.Goals as goal

pub loop-done-init : goal.loop-done-init
loop-done-init g c = record {
  lane_is = refl;
  serves = c.requires.serves;
  on = c.requires.on;
  kept = record { image = refl; cores = refl; tells_distances = refl; bound = refl };
  others = g.met.S.CoreSide.stays _ _;
  made = none-yet g.S.CoreSide.makes _ _;
  served = λ history served. (history, served);
}

pub loop-done-preserved : goal.loop-done-preserved
loop-done-preserved g c =
    let l = c.loop-done in
    let i = l.invariant in
    let f = c.run_cycle-slot.ensures in
    let n = c.run_cycle-slot.new in
    let end = c.run_cycle-slot.result in
    let core = c.args.slot.now.lane.core in
    let view = g.E.CoreEngine.view in
    let times = g.E.CoreEngine.timed in
    let S = g.S.CoreSide in
    let C : ℕ → Type 0 = Cycled view times S.serves S.view S.leaves_others S.makes c.args.budget l.done end l.side n.side l.slot.engine
    n.engine l.slot.lane n.lane in
    let says = subst C i.lane_is (record {
      serves_on = f.serves;
      on_or_over = f.on_or_over;
      kept = f.kept;
      others = f.others;
      made = f.made;
      served = λ history served. (let h = f.served history served in (h.0, h.1.0));
    }) in
    let none : is_some end ≡ false = search rules in
    record {
      lane_is = f.core ∙ i.lane_is;
      serves = says.serves_on;
      on = is-on end (none_from_is_some end none) says.on_or_over;
      kept = keeps-then _ _ _ i.kept says.kept;
      others = g.met.S.CoreSide.goes_on _ _ _ _ i.others says.others;
      made = cycle-more S.makes core l.done _ _ _ i.made
          (subst (λ (is_last : Bool). Next S.makes core (l.done + 1) is_last l.side n.side) none says.made);
      served = λ history served.
          (let before = i.served history served in
          let after = says.served before.0 before.1 in (
            after.0,
            subst (λ (it : Option End). IsServedAt view times (S.view n.side core) n.engine n.lane it (l.done + 1) after.0)
                (none_from_is_some end none) after.1,
          ));
    }

pub returns-then-is_some-clause-made : goal.returns-then-is_some-clause-made
returns-then-is_some-clause-made g c =
    let l = c.loop-done in
    let i = l.invariant in
    let n = c.run_cycle-slot.new in
    let end = c.run_cycle-slot.result in
    let makes = g.S.CoreSide.makes in
    let some : is_some end ≡ true = search rules in
    let N : ℕ → Type 0 = λ core. Next makes core (l.done + 1) (is_some end) l.side n.side in
    run-ended makes c.args.slot.now.lane.core l.done _ _ _ i.made
    (subst (λ (is_last : Bool). Next makes c.args.slot.now.lane.core (l.done + 1) is_last l.side n.side) some
    (subst N i.lane_is c.run_cycle-slot.ensures.made))
