use Rattle.std.proofs.Common.{◌≡◌}
use Rattle.std.specs.Prelude.{None}
use Rattle.mem_port.specs.ServiceHistory.{ServiceHistory}
use Rattle.mem_port.specs.Side.{KeepsSide}
use Rattle.core_run.specs.Running.{IsOn, IsServedAt}
use Rattle.core_threads.proofs.CallLemmas.{HasCycles}
use Rattle.core_threads.proofs.work.run_core.Given as goal

abbrev pub invariant-loop-done : goal.invariant-loop-done
invariant-loop-done g l =
    let core = l.fn.slot.lane.core in
    let view = g.E.CoreEngine.view in
    let side = g.S.CoreSide.view in
    record {
      lane_is : l.slot.lane.core ≡ core;
      serves : g.S.CoreSide.serves l.side core;
      on : IsOn l.budget (side l.side core) (view l.slot.engine) l.slot.lane l.done;
      kept : KeepsSide (side l.fn.side core) (side l.side core);
      others : g.S.CoreSide.leaves_others core l.fn.side l.side;
      made : HasCycles g.S.CoreSide.makes core l.done l.fn.side l.side;
      served : (history : ServiceHistory)
          → IsServedAt view g.E.CoreEngine.timed (side l.fn.side core) l.fn.slot.engine l.fn.slot.lane None 0 history
          → (after : ServiceHistory) × IsServedAt view g.E.CoreEngine.timed (side l.side core) l.slot.engine l.slot.lane None l.done after;
    }
