use Rattle.std.proofs.Common.{refl, ◌∙◌, subst}
use Rattle.image_file.specs.Value.{IsGood}
use Rattle.image_file.proofs.StartLaws.{length-start_memory}
use Rattle.right_run.specs.Right.{caches_of}
use Rattle.right_run.proofs.MachineLaws.{in-threads}
use Rattle.core_run.proofs.RunLaws.{run-fresh}
use Rattle.core_run.proofs.PipedRunLaws.{piped-run-right}
use Rattle.core_threads.proofs.run.run_piped.Goals as goal

pub run_slots-requires-clause-slots : goal.run_slots-requires-clause-slots
run_slots-requires-clause-slots g c κs within core s got =
    rw (c.requires.fresh.image_is, c.requires.fresh.cores_are) (c.in_ok-slots.ensures.slots core s got)

pub returns-clause-right : goal.returns-clause-right
returns-clause-right g c =
    let setup = c.args.setup.now in
    let served = c.in_ok-outcome.ensures.served c.in_ok-slots.ensures.timed in
    piped-run-right setup c.args.image.now _ c.in_ok-outcome.outcome served.0 setup.machine refl c.requires.fits c.requires.fresh
    c.in_ok-outcome.ensures.run served.1.0 served.1.1

pub returns-clause-within : goal.returns-clause-within
returns-clause-within g c =
    let setup = c.args.setup.now in
    (run-fresh c.args.image.now setup.cores setup.budget (caches_of setup) _ c.in_ok-outcome.outcome c.requires.fresh
    c.in_ok-outcome.ensures.run).within

pub returns-clause-words : goal.returns-clause-words
returns-clause-words g c =
    let setup = c.args.setup.now in
    let image = c.args.image.now in
    let run = run-fresh image setup.cores setup.budget (caches_of setup) _ c.in_ok-outcome.outcome c.requires.fresh
    c.in_ok-outcome.ensures.run in
    run.words ∙ length-start_memory image (subst IsGood c.requires.fresh.image_is c.requires.fresh.lawful.good)

pub returns-clause-turns : goal.returns-clause-turns
returns-clause-turns g c = in-threads c.args.setup.now _ _ _ c.requires.threads

pub returns-clause-lines : goal.returns-clause-lines
returns-clause-lines g c =
    let setup = c.args.setup.now in
    (run-fresh c.args.image.now setup.cores setup.budget (caches_of setup) _ c.in_ok-outcome.outcome c.requires.fresh
    c.in_ok-outcome.ensures.run).lines
