use Rattle.std.proofs.Common.{arith}
use Rattle.report_summary.proofs.ItemLemmas.{accesses_and_transactions}
use Rattle.report_summary.proofs.summary.count_transactions.Goals as goal

pub overflow_sub-result : goal.overflow_sub-result
overflow_sub-result c = omega (arith, accesses_and_transactions c.args.items.now, c.count_accesses.ensures.accesses)

pub returns : goal.returns
returns c = record { transactions = omega (arith, accesses_and_transactions c.args.items.now, c.count_accesses.ensures.accesses) }
