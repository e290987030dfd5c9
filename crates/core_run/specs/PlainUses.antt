-- An unpipelined core uses what it gets.
use Rattle.std.proofs.Common.{◌≤◌, arith}
use Rattle.mem_port.specs.Engine.{EngineView}
use Rattle.mem_port.specs.ServiceHistory.{ServiceHistory, UsesService}
use Rattle.core_run.specs.declared.plain.Phase.{Phase}
use Rattle.core_run.specs.declared.plain.Phase.TheVariants.{Begin, Access, Stopped, GivenUp, FoundDone}
use Rattle.core_run.specs.PlainView.{under_way, IsPlainHistory}

few-under_way : (phase : Phase) → under_way phase ≤ 1
few-under_way Begin = omega arith
few-under_way (Access r) = omega arith
few-under_way Stopped = omega arith
few-under_way GivenUp = omega arith
few-under_way FoundDone = omega arith

pub plain-uses : (history : ServiceHistory) (e : EngineView) (phase : Phase) → IsPlainHistory history e phase
    → UsesService history.service e.executed
plain-uses history e phase h =
    let few = few-under_way phase in
    let clocks = h.clocks in
    let words = h.words in
    let accesses = h.accesses in
    record { clocks = omega (arith, clocks, few, accesses); words = omega (arith, words, few); accesses = accesses }
