use Rattle.std.proofs.Common.{◌∙◌, ap}
use Rattle.kmp_call.specs.Status.{after_write}
use Rattle.kmp_call.proofs.run.write_report.Goals as goal

pub returns : goal.returns
returns g c = record {
  answers = record {
    result = c.print_report.result;
    writes = c.print_report.ensures.writes;
    status_is = c.after_write.ensures.status ∙ ap (λ due. after_write due c.print_report.result) c.status_of.ensures.status;
  };
}
