use Rattle.std.proofs.lemmas.List.Elements.{All-append}
use Rattle.asm_parse.specs.Statements.{IsProperBody}
use Rattle.asm_parse.proofs.lines.line_of.Goals as goal

pub returns-clause-proper : goal.returns-clause-proper
returns-clause-proper c =
    rw c.in_ok-append.ensures.items
    (All-append IsProperBody c.take_labels.new.bodies.items c.in_ok-named.named.items c.in_ok-rest.ensures.proper
    c.in_ok-named.ensures.proper)
