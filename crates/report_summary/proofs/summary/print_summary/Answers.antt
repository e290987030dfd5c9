use Rattle.std.proofs.Common.{◌∙◌, ℕ, List, ap}
use Rattle.std.specs.List.{flat_map}
use Rattle.std.proofs.lemmas.List.Folds.{flat_map-map}
use Rattle.kmp_base.specs.Rows.{row_text}
use Rattle.kmp_base.proofs.StreamLaws.{writes_as}
use Rattle.report_summary.specs.Summary.{summary_rows}
use Rattle.report_summary.proofs.summary.print_summary.Goals as goal

pub returns : goal.returns
returns g c = record {
  writes = writes_as (ap (flat_map (λ (text : List ℕ). text)) c.summary.ensures.rows ∙ flat_map-map (λ (text : List ℕ). text) row_text
      (summary_rows c.args.size c.args.report.now))
      c.put_rows.ensures;
}
