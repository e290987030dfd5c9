use Rattle.std.proofs.Common.{◌≡◌, ◌∙◌, ◌∷◌, map, sym, ap, append_assoc}
use Rattle.std.proofs.lemmas.List.Elements.{All-push}
use Rattle.asm_parse.specs.declared.statement.Body.TheVariants.{Label}
use Rattle.asm_parse.specs.Lines.{labels_in}
use Rattle.asm_parse.specs.Statements.{IsProperBody}
use Rattle.asm_parse.proofs.lines.take_labels.Goals as goal

pub labels-preserved : goal.labels-preserved
labels-preserved c =
    let more : map Label (labels_in c.labels.rest.now) ≡ Label c.in-Some.label.now ∷ map Label (labels_in c.in-Some.behind.now) =
    ap (map Label) c.in-Some.ensures.labels in
    record {
      labels = rw (c.in_ok-push.ensures.items, c.copy.ensures.copy, append_assoc, ← more) c.labels.invariant.labels;
      proper = rw c.in_ok-push.ensures.items
          (All-push IsProperBody c.labels.bodies.items (Label c.copy.result) c.labels.invariant.proper tt);
      rest = sym c.in-Some.ensures.behind ∙ c.labels.invariant.rest;
    }
