use Rattle.std.proofs.Common.{None, arith}
use Rattle.core_run.proofs.RunLaws.{run-fresh, run-unstalled}
use Rattle.core_run.proofs.PlainRunLaws.{view_of, times_of, rows_of, plain-right}
use Rattle.core_threads.proofs.run.run_threads.Goals as goal

pub run_slots-requires-clause-slots : goal.run_slots-requires-clause-slots
run_slots-requires-clause-slots g c κs within core s got =
    rw (c.in_ok-memory-in-Plain.ensures.fresh.image_is, c.in_ok-memory-in-Plain.ensures.fresh.cores_are)
    (c.in_ok-slots-in-Plain.ensures.slots c.args.setup.now.budget (omega (arith, c.requires.limits.budget)) core s got)

pub returns-in_ok-outcome-in-Plain-clause-right : goal.returns-in_ok-outcome-in-Plain-clause-right
returns-in_ok-outcome-in-Plain-clause-right g c =
    let setup = c.args.setup.now in
    let memory = c.in_ok-memory-in-Plain.ensures in
    let outcome = c.in_ok-outcome-in-Plain.outcome in
    let served = c.in_ok-outcome-in-Plain.ensures.served c.in_ok-slots-in-Plain.ensures.timed in
    plain-right setup c.args.image.now outcome served.0
    (run-unstalled view_of rows_of times_of c.args.image.now setup.cores setup.budget _ outcome served.0
    memory.fresh memory.at_once c.in_ok-outcome-in-Plain.ensures.run served.1.0 (served.1.1 memory.at_once)) c.in-Plain.is

pub returns-in_ok-outcome-in-Plain-clause-within : goal.returns-in_ok-outcome-in-Plain-clause-within
returns-in_ok-outcome-in-Plain-clause-within g c = (run-fresh c.args.image.now c.args.setup.now.cores c.args.setup.now.budget None _
    c.in_ok-outcome-in-Plain.outcome c.in_ok-memory-in-Plain.ensures.fresh c.in_ok-outcome-in-Plain.ensures.run).within

pub returns-in_ok-outcome-in-Plain-clause-lines : goal.returns-in_ok-outcome-in-Plain-clause-lines
returns-in_ok-outcome-in-Plain-clause-lines g c = (run-fresh c.args.image.now c.args.setup.now.cores c.args.setup.now.budget None _
    c.in_ok-outcome-in-Plain.outcome c.in_ok-memory-in-Plain.ensures.fresh c.in_ok-outcome-in-Plain.ensures.run).lines
