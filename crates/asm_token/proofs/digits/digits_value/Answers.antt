use Rattle.std.proofs.Common.{arith}
use Rattle.std.specs.Str.Parse.{digits_value}
use Rattle.asm_token.proofs.DigitsLemmas.{front_fits}
use Rattle.asm_token.proofs.digits.digits_value.Goals as goal

pub returns-in_err-checked_mul : goal.returns-in_err-checked_mul
returns-in_err-checked_mul c =
    rw c.from_residual.ensures (λ fits.
    let below = front_fits c.args.radix c.loop-digit.value c.loop-digit.digit-index c.args.digits.now
    (digits_value c.args.radix c.args.digits.now) c.requires c.loop-digit-test.true c.loop-digit.invariant.1 fits in
    c.in_err-checked_mul.ensures (omega (arith, below)))

pub returns-in_err-value : goal.returns-in_err-value
returns-in_err-value c =
    rw c.from_residual-in_err-value.ensures (λ fits.
    let below = front_fits c.args.radix c.loop-digit.value c.loop-digit.digit-index c.args.digits.now
    (digits_value c.args.radix c.args.digits.now) c.requires c.loop-digit-test.true c.loop-digit.invariant.1 fits in
    c.in_err-value.ensures (omega (arith, below, c.in_ok-checked_mul.ensures, c.digit_value.ensures)))
