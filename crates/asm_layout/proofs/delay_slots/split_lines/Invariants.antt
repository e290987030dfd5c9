use Rattle.std.proofs.Common.{◌≡◌, ◌++◌, drop}
use Rattle.asm_layout.specs.DelaySlots.{split_lines}
use Rattle.asm_layout.proofs.DelaySlotsLemmas.{split_from}
use Rattle.asm_layout.proofs.delay_slots.split_lines.Given as goal

abbrev pub invariant-loop-statement : goal.invariant-loop-statement
invariant-loop-statement l = l.lines.items ++ split_from l.in_delay_slot (drop l.statement-index l.statements) ≡ split_lines l.statements
