use Rattle.std.proofs.Common.{refl}
use Rattle.kmp_base.proofs.DecimalLemmas.{spelled, unspelled}
use Rattle.kmp_base.proofs.numbers.decimal_of.Goals as goal

pub returns-then-is_plain : goal.returns-then-is_plain
returns-then-is_plain c = record {
  value = spelled c.args.text.now c.digits_of.result (c.if-is_plain.ensures.plain.0 refl) c.digits_of.ensures.fits c.digits_of.ensures.value;
}

pub returns-else-is_plain : goal.returns-else-is_plain
returns-else-is_plain c = record {
  value = unspelled c.is_plain.result c.args.text.now c.is_plain.ensures.plain c.if-is_plain.false;
}
