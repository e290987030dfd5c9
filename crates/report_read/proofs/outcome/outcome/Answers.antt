use Rattle.std.proofs.Common.{length, ap, arith}
use Rattle.image_file.specs.Value.{ImageValue}
use Rattle.report_read.proofs.TimetableLemmas.{outcome_is}
use Rattle.report_read.proofs.outcome.outcome.Goals as goal

pub returns : goal.returns
returns c =
    outcome_is _ _ _ _ _ _ _ _ _ _ _ _ _ _ _ _ _ _ c.args.setup c.args.image c.in_ok-history.ensures.found c.in_ok-ends.ensures.read
    c.in_ok-words.ensures c.in_ok-cores.ensures.read c.in_ok-cores.ensures.ends c.in_ok-counts.ensures c.in_ok-rest.ensures.found
    (omega (arith, ap (λ (image : ImageValue). image.memory_lines) c.image.view_is))
    (omega (arith, c.len.ensures, ap (λ (image : ImageValue). length image.code) c.image.view_is))
    c.most_rows.ensures.most c.in_ok-ends.ensures.count
