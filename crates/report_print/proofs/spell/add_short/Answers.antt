use Rattle.std.proofs.Common.{◌≤◌, length, decimal, ap, ◌∙◌, arith, length-append}
use Rattle.report_print.proofs.DigitLemmas.{short_fits}
use Rattle.report_print.proofs.spell.add_short.Goals as goal

pub returns-clause-len : goal.returns-clause-len
returns-clause-len c =
    let n = c.from.result in
    let long = ap length c.decimal.ensures.bytes ∙ length-append c.text.new.self (decimal n) in
    let digits : length (decimal n) ≤ 10 = short_fits n (omega arith) in
    omega (arith, long, digits)
