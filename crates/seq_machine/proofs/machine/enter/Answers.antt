use Rattle.std.proofs.Common.{sym, refl, ◌∙◌}
use Rattle.seq_machine.proofs.Differences.{entry_is_due}
use Rattle.seq_machine.proofs.machine.enter.Goals as goal

pub store-requires-clause-within : goal.store-requires-clause-within
store-requires-clause-within c =
    let is = entry_is_due c.args.memory.now c.args.entry.now c.args.core.now c.in-Asks.access c.due-due.result c.requires.nth
    c.due-due.ensures.due (sym c.first_difference.ensures ∙ c.in_default-first_difference.is) in
    rw is.addr c.in-Asks.ensures.allowed.1

pub store-requires-clause-aligned : goal.store-requires-clause-aligned
store-requires-clause-aligned c =
    let is = entry_is_due c.args.memory.now c.args.entry.now c.args.core.now c.in-Asks.access c.due-due.result c.requires.nth
    c.due-due.ensures.due (sym c.first_difference.ensures ∙ c.in_default-first_difference.is) in
    rw (is.addr, is.kind) c.in-Asks.ensures.allowed.0

pub returns : goal.returns
returns c =
    let is = entry_is_due c.args.memory.now c.args.entry.now c.args.core.now c.in-Asks.access c.due-due.result c.requires.nth
    c.due-due.ensures.due (sym c.first_difference.ensures ∙ c.in_default-first_difference.is) in
    (c.in-Asks.access, sym c.in-Asks.ensures.value, is.same, c.store.ensures.stored, rw c.finish-core.ensures.value refl)
