use Rattle.std.proofs.Common.{refl, inl}
use Rattle.report_text.specs.Text.{report_text}
use Rattle.kmp_call.specs.Status.{status_of}
use Rattle.kmp_call.proofs.run.write_run.Goals as goal

pub returns-in-Ok : goal.returns-in-Ok
returns-in-Ok g c = record {
  written = inl (record {
    text = report_text c.in-Ok.report;
    due = status_of c.in-Ok.report;
    is_due = (c.in-Ok.report, c.in-Ok.ensures.report, refl, refl);
    answers = c.write_report.ensures.answers;
  });
}
