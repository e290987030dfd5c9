use Rattle.std.proofs.Common.{◌∙◌, sym}
use Rattle.std.proofs.lemmas.Bool.{false≢true}
use Rattle.kmp_base.proofs.HexLemmas.{no_other_hex8, no_hex8}
use Rattle.kmp_base.proofs.numbers.hex8_of.Goals as goal

pub returns-then-is_err : goal.returns-then-is_err
returns-then-is_err c = record {
  value = no_hex8 _ c.decode_to_slice.new.out c.decode_to_slice.result c.decode_to_slice.ensures.value
      (sym c.is_err.ensures.value ∙ c.if-is_err.true);
}

pub returns-else-is_hex8 : goal.returns-else-is_hex8
returns-else-is_hex8 c = record {
  value = no_other_hex8 _ c.decode_to_slice.new.out c.decode_to_slice.result c.from_be_bytes-n.result c.decode_to_slice.ensures.value
      c.from_be_bytes-n.ensures (λ is. false≢true (c.if-is_hex8.ensures.same.1 is));
}
