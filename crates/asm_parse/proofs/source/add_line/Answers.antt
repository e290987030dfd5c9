use Rattle.std.proofs.Common.{map}
use Rattle.std.proofs.lemmas.List.Elements.{All-append, All-map}
use Rattle.asm_parse.specs.declared.statement.Statement.{Statement}
use Rattle.asm_parse.specs.Lines.{on_line}
use Rattle.asm_parse.specs.Statements.{IsProperBody}
use Rattle.asm_parse.proofs.source.add_line.Goals as goal

pub returns-in_ok-push_all-in-Ok-clause-proper : goal.returns-in_ok-push_all-in-Ok-clause-proper
returns-in_ok-push_all-in-Ok-clause-proper c =
    rw c.in_ok-push_all-in-Ok.ensures.pushed
    (All-append (λ (s : Statement). IsProperBody s.body) c.args.statements.now.items (map (on_line c.args.number) c.in-Ok.bodies.items)
    c.requires.proper
    (All-map (λ (s : Statement). IsProperBody s.body) (on_line c.args.number) c.in-Ok.bodies.items c.in-Ok.ensures.proper))
