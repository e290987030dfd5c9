use Rattle.std.proofs.Common.{refl, None, arith}
use Rattle.kmp_base.specs.declared.setup.MachineKind.TheVariants as machines
use Rattle.right_run.specs.Turns.{AreInTurns, cycles_of, tables_of}
use Rattle.right_run.proofs.MachineLaws.{in-turns}
use Rattle.core_run.proofs.RunLaws.{run-fresh, run-served}
use Rattle.core_run.proofs.PlainRunLaws.{view_of, times_of, rows_of, plain-right, plain-ordered}
use Rattle.core_run.proofs.run.run_serial.Goals as goal

pub run_in_turns-requires-clause-slots : goal.run_in_turns-requires-clause-slots
run_in_turns-requires-clause-slots c core s got =
    rw (c.in_ok-memory-in-Plain.ensures.fresh.image_is, c.in_ok-memory-in-Plain.ensures.fresh.cores_are)
    (c.in_ok-slots-in-Plain.ensures.slots c.args.setup.now.budget (omega (arith, c.requires.limits.budget)) core s got)

pub returns-in_ok-slots-in-Plain-clause-right : goal.returns-in_ok-slots-in-Plain-clause-right
returns-in_ok-slots-in-Plain-clause-right c =
    let setup = c.args.setup.now in
    let memory = c.in_ok-memory-in-Plain.ensures in
    let served = c.run_in_turns.ensures.served c.in_ok-slots-in-Plain.ensures.timed in
    plain-right setup c.args.image.now c.run_in_turns.result served.0
    (run-served view_of rows_of times_of _ c.args.image.now setup.cores setup.budget _ c.run_in_turns.result served.0
    memory.fresh memory.at_once c.run_in_turns.ensures.run served.1) c.in-Plain.is

pub returns-in_ok-slots-in-Plain-clause-turns : goal.returns-in_ok-slots-in-Plain-clause-turns
returns-in_ok-slots-in-Plain-clause-turns c =
    let setup = c.args.setup.now in
    let memory = c.in_ok-memory-in-Plain.ensures in
    let cores = c.run_in_turns.result.cores in
    let in_order = AreInTurns setup.turns setup.seed (cycles_of cores) in
    let served = c.run_in_turns.ensures.served c.in_ok-slots-in-Plain.ensures.timed in
    in-turns machines.Plain setup.turns setup (cycles_of cores) (tables_of cores) _ c.in-Plain.is refl
    (plain-ordered setup c.args.image.now c.run_in_turns.result served.0
    (run-served view_of rows_of times_of in_order c.args.image.now setup.cores setup.budget _ c.run_in_turns.result served.0
    memory.fresh memory.at_once c.run_in_turns.ensures.run served.1) in_order (served.1.at_once memory.at_once).received)

pub returns-in_ok-slots-in-Plain-clause-within : goal.returns-in_ok-slots-in-Plain-clause-within
returns-in_ok-slots-in-Plain-clause-within c = (run-fresh c.args.image.now c.args.setup.now.cores c.args.setup.now.budget None _
    c.run_in_turns.result c.in_ok-memory-in-Plain.ensures.fresh c.run_in_turns.ensures.run).within

pub returns-in_ok-slots-in-Plain-clause-lines : goal.returns-in_ok-slots-in-Plain-clause-lines
returns-in_ok-slots-in-Plain-clause-lines c = (run-fresh c.args.image.now c.args.setup.now.cores c.args.setup.now.budget None _
    c.run_in_turns.result c.in_ok-memory-in-Plain.ensures.fresh c.run_in_turns.ensures.run).lines
