use Rattle.kmp_base.proofs.DecimalLemmas.{digits_go_on, digits_end}
use Rattle.kmp_base.proofs.numbers.digits_of.Goals as goal

pub returns-in_default : goal.returns-in_default
returns-in_default c = record {
  value = digits_end c.args.text.now c.loop-digit.digit-index c.loop-digit.number c.loop-digit-test.true c.loop-digit.invariant.1
      c.in_default.ensures.value;
  fits = tt;
}

pub loop-digit-preserved : goal.loop-digit-preserved
loop-digit-preserved c =
    let more = digits_go_on c.args.text.now c.loop-digit.digit-index c.loop-digit.number c.in-Some.more c.loop-digit-test.true
    c.loop-digit.invariant.0 c.loop-digit.invariant.1 c.in-Some.ensures.value in
    (more.0, more.1, c.in-Some.ensures.fits)
