use Rattle.std.proofs.Common.{refl, arith}
use Rattle.asm_link.proofs.laws.loads_are_whole.Goals as goal

pub returns : goal.returns
returns c = record { law = record { halves = λ word low. omega arith; worked = refl } }
