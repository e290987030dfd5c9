use Rattle.std.proofs.Common.{refl}
use Rattle.report_text.proofs.worked_counts.Goals as goal

pub returns : goal.returns
returns c = record { law = (refl, refl) }
