use Rattle.std.proofs.Common.{◌≡◌, ◌++◌, map}
use Rattle.asm_parse.specs.Lines.{on_line}
use Rattle.asm_parse.proofs.source.push_all.Given as goal

abbrev pub invariant-loop-body : goal.invariant-loop-body
invariant-loop-body l = l.statements.items ≡ l.fn.statements.items ++ map (on_line l.line) l.yielded
