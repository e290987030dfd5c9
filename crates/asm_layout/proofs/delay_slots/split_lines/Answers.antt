use Rattle.std.proofs.Common.{sym}
use Rattle.asm_layout.proofs.DelaySlotsLemmas.{from_start}
use Rattle.asm_layout.proofs.delay_slots.split_lines.Goals as goal

pub loop-statement-init : goal.loop-statement-init
loop-statement-init c = rw c.new-lines.ensures.items (sym (from_start c.args.statements.now))
