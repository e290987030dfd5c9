use Rattle.kmp_call.proofs.RunLemmas.{reported}
use Rattle.kmp_call.proofs.run.report_run.Goals as goal

pub returns : goal.returns
returns c =
    let is = c.in_ok-outcome.was in record {
      report = reported c.args.setup.now c.args.image c.in_ok-outcome.outcome c.build_report.result c.build_report.ensures.report
          c.build_report.ensures.form c.requires.ways (rw is at c.requires.right) (rw is at c.requires.turns);
    }
