use Rattle.std.proofs.Common.{refl, ◌∙◌, subst}
use Rattle.image_file.specs.Value.{IsGood}
use Rattle.image_file.proofs.StartLaws.{length-start_memory}
use Rattle.right_run.specs.Right.{caches_of}
use Rattle.core_run.proofs.RunLaws.{run-fresh}
use Rattle.core_run.proofs.PipedRunLaws.{piped-run-right, piped-run-turns}
use Rattle.core_run.proofs.run.run_piped.Goals as goal

pub run_in_turns-requires-clause-slots : goal.run_in_turns-requires-clause-slots
run_in_turns-requires-clause-slots g c core s got =
    rw (c.requires.fresh.image_is, c.requires.fresh.cores_are) (c.in_ok-slots.ensures.slots core s got)

pub returns-clause-right : goal.returns-clause-right
returns-clause-right g c =
    let setup = c.args.setup.now in
    let served = c.run_in_turns.ensures.served c.in_ok-slots.ensures.timed in
    piped-run-right setup c.args.image.now _ c.run_in_turns.result served.0 setup.machine refl c.requires.fits c.requires.fresh
    c.run_in_turns.ensures.run served.1.ends (λ once. (served.1.at_once once).waited)

pub returns-clause-turns : goal.returns-clause-turns
returns-clause-turns g c =
    let setup = c.args.setup.now in
    let served = c.run_in_turns.ensures.served c.in_ok-slots.ensures.timed in
    piped-run-turns setup c.args.image.now _ c.run_in_turns.result served.0 setup.machine refl c.requires.fits c.requires.fresh
    c.run_in_turns.ensures.run served.1

pub returns-clause-within : goal.returns-clause-within
returns-clause-within g c =
    let setup = c.args.setup.now in
    (run-fresh c.args.image.now setup.cores setup.budget (caches_of setup) _ c.run_in_turns.result c.requires.fresh
    c.run_in_turns.ensures.run).within

pub returns-clause-words : goal.returns-clause-words
returns-clause-words g c =
    let setup = c.args.setup.now in
    let image = c.args.image.now in
    let run = run-fresh image setup.cores setup.budget (caches_of setup) _ c.run_in_turns.result c.requires.fresh
    c.run_in_turns.ensures.run in
    let good = subst IsGood c.requires.fresh.image_is c.requires.fresh.lawful.good in
    run.words ∙ length-start_memory image good

pub returns-clause-lines : goal.returns-clause-lines
returns-clause-lines g c =
    let setup = c.args.setup.now in
    (run-fresh c.args.image.now setup.cores setup.budget (caches_of setup) _ c.run_in_turns.result c.requires.fresh
    c.run_in_turns.ensures.run).lines
