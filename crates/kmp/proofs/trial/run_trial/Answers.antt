use Rattle.std.proofs.Common.{◌∙◌, refl, ap, inl}
use Rattle.report_summary.specs.Summary.{summary_text}
use Rattle.kmp_call.specs.Status.{status_of, after_write}
use Rattle.kmp.proofs.trial.run_trial.Goals as goal

pub returns-in-Ok : goal.returns-in-Ok
returns-in-Ok g c =
    let report = c.in-Ok.report in record {
      written = inl (record {
        text = summary_text c.args.size report;
        due = status_of report;
        is_due = (report, c.in-Ok.ensures.report, refl, refl);
        answers = record {
          result = c.print_summary.result;
          writes = c.print_summary.ensures.writes;
          status_is = c.after_write.ensures.status ∙ ap (λ due. after_write due c.print_summary.result) c.status_of.ensures.status;
        };
      });
    }
