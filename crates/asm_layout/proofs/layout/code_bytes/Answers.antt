use Rattle.std.proofs.Common.{◌∙◌, List, ap, arith}
use Rattle.std.proofs.lemmas.List.{take_all}
use Rattle.asm_parse.specs.declared.statement.Statement.{Statement}
use Rattle.asm_layout.specs.Places.{code_behind}
use Rattle.asm_layout.proofs.PlacesLaws.{code_counted, no_code}
use Rattle.asm_layout.proofs.layout.code_bytes.Goals as goal

pub loop-statement-init : goal.loop-statement-init
loop-statement-init c = record { counted = no_code; bound = omega arith }

pub loop-statement-preserved : goal.loop-statement-preserved
loop-statement-preserved c =
    let inv = c.loop-statement.invariant in
    record {
      counted = code_counted c.loop-statement.statement-index c.args.statements.now c.statement-item.result c.loop-statement.bytes
          c.code_size-bytes.result c.loop-statement-test.true c.statement-item.is inv.counted c.code_size-bytes.ensures.value;
      bound = omega (arith, inv.bound, c.code_size-bytes.ensures.bound);
    }

pub returns-clause-value : goal.returns-clause-value
returns-clause-value c = c.loop-statement.invariant.counted
    ∙ ap (λ (ss : List Statement). code_behind ss) (take_all _ c.args.statements.now c.loop-statement-test.false)
