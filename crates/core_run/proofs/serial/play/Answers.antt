use Rattle.std.proofs.Common.{rules, ◌+◌, refl, subst, sym, ◌∙◌, ℕ, List, MutBor}
use Rattle.std.specs.Prelude.{Option, is_some}
use Rattle.std.proofs.Math.Path.{subst⁻¹}
use Rattle.mem_port.specs.Calls.{Call, Lead}
use Rattle.mem_port.specs.Memory.{IsAtOnce}
use Rattle.mem_port.specs.ServiceHistory.{ServiceHistory}
use Rattle.mem_port.specs.Side.{side_of}
use Rattle.timetable.specs.declared.End.{End}
use Rattle.core_run.specs.Running.{IsOnOrOver, AreOfCycle, IsServedAt}
use Rattle.core_run.specs.Serial.{IsSlotOf, Receives}
use Rattle.core_run.proofs.LeadLaws.{lead-along}
use Rattle.core_run.proofs.RunningLaws.{is-on}
use Rattle.core_run.proofs.TurnLemmas.{receives}
use Rattle.core_run.proofs.serial.play.Goals as goal

pub run_cycle-slot-requires-clause-on : goal.run_cycle-slot-requires-clause-on
run_cycle-slot-requires-clause-on g c = is-on c.args.slot.now.end c.requires.no_end c.requires.slot.holds

pub returns-clause-made : goal.returns-clause-made
returns-clause-made g c =
    let f = c.run_cycle-slot.ensures in
    let makes = g.M.MemoryCore.makes in
    subst⁻¹ (λ (m : g.row.M.Denot). (calls : List Call) × (AreOfCycle c.args.slot.now.lane.core c.args.choice
    (is_some c.run_cycle-slot.result) calls × Lead makes calls c.args.memory.now m)) {y = c.run_cycle-slot.new.side.now} (search rules)
    (f.made.0, (f.made.1.0, lead-along _ makes (λ (s : MutBor g.row.M.Denot). s.now) (λ call s t h. h.0) f.made.0 _ _ f.made.1.1))

pub returns-clause-slot : goal.returns-clause-slot
returns-clause-slot g c =
    let f = c.run_cycle-slot.ensures in
    let n = c.run_cycle-slot.new in
    let view = g.M.MemoryCore.view in
    let H : ℕ → Type 0 = λ k. IsOnOrOver c.run_cycle-slot.result c.args.budget (side_of (view n.side.now) k) (g.E.CoreEngine.view n.engine)
    n.lane (c.args.slot.now.cycles + 1) in
    subst⁻¹ (λ (m : g.row.M.Denot). IsSlotOf c.args.slot.now.lane.core c.args.budget (view m) (g.E.CoreEngine.view n.engine)
    n.lane c.run_cycle-slot.result (c.args.slot.now.cycles + 1)) {y = n.side.now} (search rules)
    (record { lane_is = f.core; holds = subst H (sym f.core) f.on_or_over })

pub returns-clause-served : goal.returns-clause-served
returns-clause-served g c history served =
    let f = c.run_cycle-slot.ensures in
    let n = c.run_cycle-slot.new in
    let core = c.args.slot.now.lane.core in
    let cycles = c.args.slot.now.cycles in
    let view = g.M.MemoryCore.view in
    let engine_view = g.E.CoreEngine.view in
    let times = g.E.CoreEngine.timed in
    let old = view c.args.memory.now in
    let on = is-on c.args.slot.now.end c.requires.no_end c.requires.slot.holds in
    let was = subst (λ (it : Option End). IsServedAt engine_view times (side_of old core) c.args.slot.now.engine c.args.slot.now.lane it
    cycles history) c.requires.no_end served in
    let after = f.served history was in
    let end = c.run_cycle-slot.result in
    let S : ℕ → Type 0 = λ k. IsServedAt engine_view times (side_of (view n.side.now) k) n.engine n.lane end (cycles + 1) after.0 in
    subst⁻¹ (λ (m : g.row.M.Denot). (it : ServiceHistory) × (IsServedAt engine_view times (side_of (view m) n.lane.core) n.engine n.lane
    end (cycles + 1) it × (IsAtOnce old → Receives core (cycles + 1) old.history (view m).history history it)))
    {y = n.side.now} (search rules) (
      after.0,
      (
        subst S (sym f.core) after.1.0,
        λ once. receives engine_view times c.args.budget cycles old (view n.side.now) c.args.slot.now.engine
            n.engine c.args.slot.now.lane n.lane end history after.0 c.requires.serves.lawful f.serves.lawful once f.others.0 f.core on
            f.on_or_over was after.1.0 (after.1.1 (was.bound ∙ rw (once.told, once.bound) refl)),
      ),
    )
